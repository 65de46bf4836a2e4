use Rattle.sl_machine.specs.Fit.{HasCounts}
use Rattle.sl_layout.specs.Wiring.{plan_of}
use Rattle.sl_actor.specs.Held.{held}
use Rattle.nodes_tests.proofs.actors.pass.Given as goal

abbrev pub invariant-loop-actor : goal.invariant-loop-actor
invariant-loop-actor g l = HasCounts (λ a. (held a).counts) (plan_of l.net) l.actors.items
