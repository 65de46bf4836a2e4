-- Tables by ports: eight places for each device, in order.
use Rattle.std.specs.Prelude.{◌≡◌, ℕ, ◌+◌, ◌*◌, ◌<◌, List, length, Option, Some, None, slice_index_or, slice_set}
use Rattle.sl_parts.specs.declared.parts.PortRef.{PortRef}
use Rattle.sl_parts.specs.declared.parts.CablePart.{CablePart}
use Rattle.sl_parts.specs.declared.parts.HostPart.{HostPart}
use Rattle.sl_parts.specs.Parts.{Parts, other_end, host_from}

abbrev pub slot_of : PortRef → ℕ
slot_of p = 8 * p.device + p.port

-- what each port's cable leads to
pub record HasEnds (devices : ℕ) (cables : List CablePart) (ends : List (Option PortRef)) : Type 0 where
  pub size : length ends ≡ 8 * devices
  pub each : (p : PortRef) → p.device < devices → p.port < 8 → slice_index_or ends (slot_of p) None ≡ other_end cables p

-- which host stands at each port
pub record HasGuests (devices : ℕ) (hosts : List HostPart) (guests : List (Option ℕ)) : Type 0 where
  pub size : length guests ≡ 8 * devices
  pub each : (p : PortRef) → p.device < devices → p.port < 8 → slice_index_or guests (slot_of p) None ≡ host_from 0 hosts p

-- the table with a cable more
abbrev pub with_cable : List (Option PortRef) → CablePart → List (Option PortRef)
with_cable ends c = slice_set (slice_set ends (slot_of c.a) (Some c.b)) (slot_of c.b) (Some c.a)

-- the device is one of the first ones, and the port one of eight
pub record IsNear (devices : ℕ) (p : PortRef) : Type 0 where
  pub device : p.device < devices
  pub port : p.port < 8

-- the two tables
pub record PortLists : Type 0 where
  pub ends : List (Option PortRef)
  pub guests : List (Option ℕ)

-- the tables show the parts
pub record ShowsPorts (parts : Parts) (t : PortLists) : Type 0 where
  pub ends : HasEnds (length parts.devices) parts.cables t.ends
  pub guests : HasGuests (length parts.devices) parts.hosts t.guests
