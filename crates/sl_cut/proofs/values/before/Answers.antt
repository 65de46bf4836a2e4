use Rattle.sl_cut.proofs.ForwardSteps.{reverse_more}
use Rattle.std.proofs.Common.{arith}
use Rattle.std.proofs.lemmas.Grind.{common_steps}
use Rattle.sl_cut.proofs.values.before.Goals as goal

pub loop-place-preserved : goal.loop-place-preserved
loop-place-preserved c = grind (arith, reverse_more)

pub returns-clause-value : goal.returns-clause-value
returns-clause-value c = grind (arith, common_steps)
