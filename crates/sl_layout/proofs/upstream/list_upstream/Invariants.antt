use Rattle.std.proofs.Common.{◌≡◌, map, take}
use Rattle.sl_layout.specs.Wiring.{upstream_of}
use Rattle.sl_layout.proofs.upstream.list_upstream.Given as goal

abbrev pub invariant-loop-unit : goal.invariant-loop-unit
invariant-loop-unit l = l.upstream.items ≡ map (upstream_of l.listed) (take l.unit-index l.unit-items)
