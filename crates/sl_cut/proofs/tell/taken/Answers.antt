use Rattle.sl_cut.proofs.ForwardSteps.{reverse_more}
use Rattle.std.proofs.Common.{arith}
use Rattle.std.proofs.lemmas.Grind.{common_steps}
use Rattle.sl_cut.proofs.tell.taken.Goals as goal

pub loop-step-preserved : goal.loop-step-preserved
loop-step-preserved c = grind (arith, reverse_more)

pub returns-clause-value : goal.returns-clause-value
returns-clause-value c = grind (arith, common_steps)
