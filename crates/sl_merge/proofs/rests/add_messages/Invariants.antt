use Rattle.std.proofs.Common.{◌≡◌, ◌++◌, map}
use Rattle.std.specs.VecDeque.{deque_len}
use Rattle.sl_merge.proofs.rests.add_messages.Given as goal

abbrev pub invariant-loop-s : goal.invariant-loop-s
invariant-loop-s g l = l.messages.items ++ map (λ s. s.m) l.outbox.items ≡ l.initial.messages.items ++ map (λ s. s.m) l.fn.outbox.items

abbrev pub decreases-loop-s : goal.decreases-loop-s
decreases-loop-s g l = deque_len l.outbox
