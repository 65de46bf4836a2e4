use Rattle.std.proofs.Common.{◌≡◌, ◌++◌, map, length}
use Rattle.sl_merge.proofs.rests.messages_left.Given as goal

abbrev pub invariant-loop-s : goal.invariant-loop-s
invariant-loop-s g l = l.messages.items ++ map (λ s. s.m) l.met.left ≡ map (λ s. s.m) l.fn.met.left

abbrev pub decreases-loop-s : goal.decreases-loop-s
decreases-loop-s g l = length l.met.left
