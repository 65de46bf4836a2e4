use Rattle.std.proofs.Common.{◌≡◌, take, length, map}
use Rattle.std.specs.Prelude.{filter, ◌==◌}
use Rattle.sl_parts.specs.Parts.{below}
use Rattle.sl_route.specs.Graph.{neighbour_by}
use Rattle.sl_route.proofs.neighbours.list_neighbours.Given as goal

abbrev pub invariant-loop-cable : goal.invariant-loop-cable
invariant-loop-cable l = l.table.items ≡ map (λ d. map neighbour_by (filter (λ c. c.a.device == d) (take l.cable-index l.cable-items))) (below (length l.parts.devices))
