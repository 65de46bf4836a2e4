use Rattle.std.proofs.Common.{◌≡◌, ◌++◌, map}
use Rattle.std.specs.Prelude.{IsOk}
use Rattle.std.specs.List.{All}
use Rattle.std.specs.VecDeque.{deque_len}
use Rattle.sl_actor.specs.Held.{held}
use Rattle.sl_threads.proofs.jobs.actors_of.Given as goal

abbrev pub invariant-loop-one : goal.invariant-loop-one
invariant-loop-one g l =
    (map held l.actors.items ++ map (λ r. held r.0) l.rest.items ≡ map (λ r. held r.0) l.fn.ran.items)
    × (All (λ r. IsOk r.1) l.rest.items → All (λ r. IsOk r.1) l.fn.ran.items)

abbrev pub decreases-loop-one : goal.decreases-loop-one
decreases-loop-one g l = deque_len l.rest
