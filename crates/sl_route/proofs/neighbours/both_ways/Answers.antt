use Rattle.std.proofs.Common.{arith}
use Rattle.std.proofs.lemmas.Grind.{common_steps}
use Rattle.sl_route.proofs.neighbours.both_ways.Goals as goal

pub loop-cable-preserved : goal.loop-cable-preserved
loop-cable-preserved c = grind (arith, common_steps)
