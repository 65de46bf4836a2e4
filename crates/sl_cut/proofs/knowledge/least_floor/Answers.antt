use Rattle.sl_cut.proofs.ForwardSteps.{least_in_more}
use Rattle.sl_model.specs.Knowledge.{unit_floor}
use Rattle.std.proofs.Common.{arith, length, ◌<◌}
use Rattle.std.proofs.lemmas.Grind.{common_steps}
use Rattle.std.specs.Prelude.{None}
use Rattle.sl_cut.proofs.knowledge.least_floor.Goals as goal

pub loop-unit-preserved : goal.loop-unit-preserved
loop-unit-preserved c = let h : c.loop-unit.unit-index < length c.args.units.now = omega arith in
    rw (least_in_more None (unit_floor c.args.net.now c.args.world.now) c.args.units.now c.loop-unit.unit-index h) (grind (arith, common_steps))

pub returns : goal.returns
returns c = grind (arith, common_steps)
