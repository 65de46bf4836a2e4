use Rattle.sl_model.specs.Knowledge.{unit_floor}
use Rattle.sl_route.specs.Least.{least_in}
use Rattle.std.proofs.Common.{take, ◌≡◌}
use Rattle.std.specs.Prelude.{None, map}
use Rattle.sl_cut.proofs.knowledge.least_floor.Given as goal

abbrev pub invariant-loop-unit : goal.invariant-loop-unit
invariant-loop-unit l = l.least ≡ least_in None (map (unit_floor l.net l.world) (take l.unit-index l.units))
