use Rattle.std.proofs.Common.{take}
use Rattle.std.specs.List.{list_any}
use Rattle.std.specs.Prelude.{◌==◌}
use Rattle.sl_route.specs.Graph.{Finds}
use Rattle.sl_route.proofs.search.find_neighbours.Given as goal

abbrev pub invariant-loop-neighbour : goal.invariant-loop-neighbour
invariant-loop-neighbour l = Finds l.hops (λ d. list_any (λ k. k.device == d) (take l.neighbour-index l.neighbours)) l.fn.far.items l.far.items l.fn.found.items l.found.items
