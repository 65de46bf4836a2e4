use Rattle.std.proofs.Common.{◌≡◌, map, None}
use Rattle.std.specs.Prelude.{slice_index_or}
use Rattle.sl_parts.specs.Parts.{below}
use Rattle.sl_route.specs.Graph.{neighbours_at, port_toward}
use Rattle.sl_route.proofs.ways.ports_toward.Given as goal

abbrev pub invariant-loop-device : goal.invariant-loop-device
invariant-loop-device l = l.ports.items ≡ map (λ d. port_toward l.own l.far (neighbours_at l.table d) (slice_index_or l.far d None)) (below l.device)
