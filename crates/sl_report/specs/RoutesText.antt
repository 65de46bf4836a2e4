-- Trusted text.
-- The text of the routes of a net. Each line ends with a newline; numbers are decimal.
use Rattle.std.specs.Prelude.{ℕ, List, ◌++◌, Option, Some, codes, decimal}
use Rattle.sl_parts.specs.Parts.{Parts}
use Rattle.sl_layout.specs.Net.{Net}
use Rattle.sl_route.specs.Route.{next_port, hops}
use Rattle.sl_route.specs.Pairs.{pairs_text}
use Rattle.sl_net.specs.Spelling.{device_name, host_name}

-- the next port and the number of cables, or that there is no way
abbrev pub way_text : Option ℕ → Option ℕ → List ℕ
way_text (Some port) (Some hops) = decimal port ++ (codes " " ++ decimal hops)
way_text _ _ = codes "none"

unfoldable pub route_line : List ℕ → List ℕ → Option ℕ → Option ℕ → List ℕ
route_line device host port hops = codes "route " ++ (device ++ (codes " " ++ (host ++ (codes " " ++ (way_text port hops ++ codes "\n")))))

abbrev pub route_text : Parts → ℕ → ℕ → List ℕ
route_text parts d h = route_line (device_name parts d) (host_name parts h) (next_port parts d h) (hops parts d h)

abbrev pub routes_text : Net → List ℕ
routes_text net = pairs_text route_text net.parts ++ codes "end\n"
