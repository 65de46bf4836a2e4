use Rattle.std.proofs.Common.{arith, sym, subst}
use Rattle.sl_machine.specs.Plan.{Plan, HasChoice}
use Rattle.actor_tests.proofs.LineLemmas.{line_choice}
use Rattle.actor_tests.proofs.merge.turn_on.Goals as goal

pub turn-requires-clause-choice : goal.turn-requires-clause-choice
turn-requires-clause-choice c = subst (λ (p : Plan). HasChoice p c.args.actor 0) (sym c.requires) (line_choice c.args.actor (omega arith))
