use Rattle.sl_cut.proofs.ForwardSteps.{puts_on_more}
use Rattle.std.proofs.Common.{arith}
use Rattle.std.proofs.lemmas.Grind.{common_steps}
use Rattle.sl_cut.proofs.tell.puts_on.Goals as goal

pub loop-put-preserved : goal.loop-put-preserved
loop-put-preserved c = grind (arith, common_steps, puts_on_more)

pub returns : goal.returns
returns c = grind (arith, common_steps)
