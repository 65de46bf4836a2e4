use Rattle.std.proofs.Common.{◌≡◌, take}
use Rattle.sl_route.specs.Least.{least}
use Rattle.sl_route.specs.Graph.{ports_to}
use Rattle.sl_route.proofs.ways.lowest_port.Given as goal

abbrev pub invariant-loop-neighbour : goal.invariant-loop-neighbour
invariant-loop-neighbour l = l.lowest ≡ least (ports_to (take l.neighbour-index l.neighbours) l.far l.hops)
