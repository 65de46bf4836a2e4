use Rattle.std.proofs.Common.{◌≤◌, length}
use Rattle.std.specs.List.{AllWithin}
use Rattle.sl_actor.specs.Held.{held}
use Rattle.actor_tests.proofs.merge.are_short.Given as goal

abbrev pub invariant-loop-actor : goal.invariant-loop-actor
invariant-loop-actor l = AllWithin (λ a. length (held a).log ≤ 100) l.actors 0 l.actor-index
