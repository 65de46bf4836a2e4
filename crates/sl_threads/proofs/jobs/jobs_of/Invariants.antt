use Rattle.std.proofs.Common.{◌≡◌, ◌++◌, map}
use Rattle.std.specs.VecDeque.{deque_len}
use Rattle.sl_actor.specs.Held.{held}
use Rattle.sl_threads.specs.Threads.{ArePlans}
use Rattle.sl_threads.proofs.jobs.jobs_of.Given as goal

abbrev pub invariant-loop-actor : goal.invariant-loop-actor
invariant-loop-actor g l =
    (map (λ j. held j.actor) l.jobs.items ++ map held l.rest.items ≡ map held l.fn.actors.items)
    × (map (λ j. j.plan.items) l.jobs.items ++ map (λ p. p.items) l.plans_left.items ≡ map (λ p. p.items) l.fn.plans.items)
    × ArePlans (map (λ a. a.counts) (map held l.rest.items)) (map (λ p. p.items) l.plans_left.items)

abbrev pub decreases-loop-actor : goal.decreases-loop-actor
decreases-loop-actor g l = deque_len l.rest
