use Rattle.std.proofs.Common.{◌≡◌, map, take}
use Rattle.sl_layout.specs.Net.{units}
use Rattle.sl_observe.specs.Observer.{first_unit}
use Rattle.sl_observe.specs.Kept.{states}
use Rattle.sl_observe.proofs.units.list_units.Given as goal

abbrev pub invariant-loop-place : goal.invariant-loop-place
invariant-loop-place l = states l.listed.items ≡ map (first_unit l.net) (take l.place (units l.net))
