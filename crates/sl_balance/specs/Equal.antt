-- Trusted text, but for BeginsLeastWalk.
-- Equal shortest ways.
--     equal_ports parts d h    the number of ports of the device d by which shortest walks to the host h begin, 1 on its own device, 0 where none leads there
use Rattle.std.specs.Prelude.{◌≡◌, ℕ, zero, suc, Bool, ◌&&◌, ◌||◌, ◌∷◌, filter, length, Option, Some, None}
use Rattle.std.specs.List.{list_any}
use Rattle.sl_parts.specs.declared.parts.PortRef.{PortRef}
use Rattle.sl_parts.specs.declared.parts.CablePart.{CablePart}
use Rattle.sl_parts.specs.Parts.{Parts, below, same_port, ports_of}
use Rattle.sl_route.specs.Route.{Walk, hops}
use Rattle.sl_route.specs.Graph.{is_at}
use Rattle.sl_route.specs.Walks.{IsWalk, IsLeast}

-- the cable leads, in one of its directions, from the port p to a device that is n cables away from the host h
abbrev pub leads_on : Parts → ℕ → ℕ → PortRef → CablePart → Bool
leads_on parts h n p c = (same_port c.a p && is_at n (hops parts c.b.device h)) || (same_port c.b p && is_at n (hops parts c.a.device h))

-- a cable at this port of the device d does so
abbrev pub begins_by : Parts → ℕ → ℕ → ℕ → ℕ → Bool
begins_by parts d h n port = list_any (leads_on parts h n (record { device = d; port = port })) parts.cables

abbrev pub ports_at : Parts → ℕ → ℕ → Option ℕ → ℕ
ports_at parts d h None = 0
ports_at parts d h (Some zero) = 1
ports_at parts d h (Some (suc n)) = length (filter (begins_by parts d h n) (below (ports_of parts d)))

abbrev pub equal_ports : Parts → ℕ → ℕ → ℕ
equal_ports parts d h = ports_at parts d h (hops parts d h)

-- a walk of the least length from the device d to the device e that begins by this port
pub record BeginsLeastWalk (parts : Parts) (d e port : ℕ) : Type 0 where
  pub cable : CablePart
  pub others : Walk
  pub port_is : cable.a.port ≡ port
  pub leads : IsWalk parts d e (cable ∷ others)
  pub least : IsLeast parts d e (length (cable ∷ others))
