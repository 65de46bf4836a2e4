use Rattle.sl_cut.proofs.ForwardSteps.{least_more}
use Rattle.std.proofs.Common.{arith}
use Rattle.std.proofs.lemmas.Grind.{common_steps}
use Rattle.sl_cut.proofs.tell.least_last.Goals as goal

pub loop-choice-preserved : goal.loop-choice-preserved
loop-choice-preserved c = grind (arith, least_more)

pub returns : goal.returns
returns c = grind (arith, common_steps)
