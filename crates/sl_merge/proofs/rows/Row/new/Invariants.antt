use Rattle.std.proofs.Common.{◌≡◌, ◌++◌, Some, map}
use Rattle.std.specs.VecDeque.{deque_len}
use Rattle.sl_merge.proofs.rows.Row.new.Given as goal

abbrev pub invariant-loop-x : goal.invariant-loop-x
invariant-loop-x g l = l.places.items ++ map Some l.rest.items ≡ map Some l.fn.list.items

abbrev pub decreases-loop-x : goal.decreases-loop-x
decreases-loop-x g l = deque_len l.rest
