use Rattle.std.proofs.Common.{arith}
use Rattle.std.proofs.lemmas.Grind.{common_steps, elements}
use Rattle.sl_cut.proofs.ending.all_sent.Goals as goal

pub loop-actor-preserved : goal.loop-actor-preserved
loop-actor-preserved c = grind (arith, common_steps)

pub returns : goal.returns
returns c = grind (arith, elements)
