use Rattle.std.proofs.Common.{arith}
use Rattle.std.proofs.lemmas.Grind.{common_steps}
use Rattle.sl_cut.proofs.units.add_unit.Goals as goal

pub returns-in-Poll : goal.returns-in-Poll
returns-in-Poll c = grind (arith, common_steps)

pub returns-in_default : goal.returns-in_default
returns-in_default c = grind (arith, common_steps)
