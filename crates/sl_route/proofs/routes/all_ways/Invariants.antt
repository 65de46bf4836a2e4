use Rattle.std.proofs.Common.{◌≡◌, map}
use Rattle.sl_parts.specs.Parts.{below}
use Rattle.sl_route.specs.Routes.{ways_of}
use Rattle.sl_route.proofs.routes.all_ways.Given as goal

abbrev pub invariant-loop-host : goal.invariant-loop-host
invariant-loop-host l = l.ways.items ≡ map (ways_of l.parts) (below l.host-index)
