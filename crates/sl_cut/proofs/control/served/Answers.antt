use Rattle.std.proofs.Common.{arith}
use Rattle.std.proofs.lemmas.Grind.{common_steps}
use Rattle.sl_cut.proofs.control.served.Goals as goal

pub loop-poll-preserved : goal.loop-poll-preserved
loop-poll-preserved c = grind (arith, common_steps)

pub returns-clause-served : goal.returns-clause-served
returns-clause-served c = grind (arith, common_steps)
