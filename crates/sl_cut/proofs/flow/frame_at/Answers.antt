use Rattle.std.proofs.Common.{arith}
use Rattle.std.proofs.lemmas.Grind.{elements}
use Rattle.sl_cut.proofs.flow.frame_at.Goals as goal

pub returns : goal.returns
returns c = grind (arith, elements)

pub returns-in-Some : goal.returns-in-Some
returns-in-Some c = grind (arith, elements)
