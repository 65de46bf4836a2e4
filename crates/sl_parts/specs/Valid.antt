-- Parts that a net can be built from, in the net's own words.
use Rattle.std.specs.Prelude.{ℕ, ◌<◌, ◌≤◌, List, length}
use Rattle.std.specs.List.{All}
use Rattle.sl_parts.specs.declared.parts.CablePart.{CablePart}
use Rattle.sl_parts.specs.declared.parts.PortRef.{PortRef}
use Rattle.sl_parts.specs.Parts.{Parts, ports_of}

-- the device is there and has this port
pub record IsPort (parts : Parts) (p : PortRef) : Type 0 where
  pub device : p.device < length parts.devices
  pub port : p.port < ports_of parts p.device

-- there are two versions of frames
abbrev pub AreVersioned : List CablePart → Type 0
AreVersioned cables = All (λ c. (1 ≤ c.version) × (c.version ≤ 2)) cables

-- few devices with few ports, and cables and hosts at these ports
pub record IsValid (parts : Parts) : Type 0 where
  pub devices : length parts.devices ≤ 64
  pub ports : (d : ℕ) → ports_of parts d ≤ 8
  pub cables : All (λ c. IsPort parts c.a × IsPort parts c.b) parts.cables
  pub hosts : All (λ h. IsPort parts h.at) parts.hosts
