-- The routes of a net: the ways to each of its hosts.
use Rattle.std.specs.Prelude.{◌≡◌, ℕ, List, map, length}
use Rattle.sl_parts.specs.Parts.{Parts, below}
use Rattle.sl_layout.specs.Net.{Net}
use Rattle.sl_route.specs.Route.{next_port, hops}
use Rattle.sl_route.specs.Ways.{Ways}

unfoldable pub ways_of : Parts → ℕ → Ways
ways_of parts h = record { ports = map (λ d. next_port parts d h) (below (length parts.devices)); hops = map (λ d. hops parts d h) (below (length parts.devices)) }

unfoldable pub routes_of : Net → List Ways
routes_of net = map (ways_of net.parts) (below (length net.parts.hosts))

abbrev pub IsRoutesOf : Net → List Ways → Type 0
IsRoutesOf net routes = routes ≡ routes_of net
