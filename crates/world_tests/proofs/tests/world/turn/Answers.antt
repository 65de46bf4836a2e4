use Rattle.std.proofs.Common.{arith, sym, subst}
use Rattle.sl_machine.specs.Plan.{Plan, HasChoice}
use Rattle.world_tests.proofs.PlanLemmas.{ring_choice}
use Rattle.world_tests.proofs.tests.world.turn.Goals as goal

pub turn-requires-clause-choice : goal.turn-requires-clause-choice
turn-requires-clause-choice c = subst (λ (p : Plan). HasChoice p c.args.actor c.args.choice) (sym c.requires) (ring_choice c.args.actor c.args.choice (omega arith) (omega arith))
