use Rattle.sl_cut.proofs.ForwardSteps.{reverse_more}
use Rattle.std.proofs.Common.{arith}
use Rattle.std.proofs.lemmas.Grind.{common_steps}
use Rattle.sl_cut.proofs.judge.skipped_to.Goals as goal

pub loop-step-preserved : goal.loop-step-preserved
loop-step-preserved c = grind (arith, reverse_more)

pub returns : goal.returns
returns c = grind (arith, common_steps)
