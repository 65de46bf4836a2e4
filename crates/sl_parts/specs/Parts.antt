-- Trusted text; version_at for nodes.
-- The parts of a net, and which of a device's ports are used.
use Rattle.std.specs.Prelude.{ℕ, suc, Bool, ◌&&◌, ◌||◌, List, [], ◌∷◌, map, filter, ◌==◌, if◌then◌else◌, Option, Some, None, slice_index_or}
use Rattle.std.specs.List.{list_any, range_with_len}
use Rattle.sl_parts.specs.declared.parts.PortRef.{PortRef}
use Rattle.sl_parts.specs.declared.parts.CablePart.{CablePart}
use Rattle.sl_parts.specs.declared.parts.DevicePart.{DevicePart}
use Rattle.sl_parts.specs.declared.parts.HostPart.{HostPart}

pub record Parts : Type 0 where
  pub devices : List DevicePart
  pub cables : List CablePart
  pub hosts : List HostPart

-- the numbers below a number, ascending
abbrev pub below : ℕ → List ℕ
below count = range_with_len 0 count

abbrev pub same_port : PortRef → PortRef → Bool
same_port p q = (p.device == q.device) && (p.port == q.port)

-- the other end of the cable at this port
abbrev pub other_end : List CablePart → PortRef → Option PortRef
other_end [] p = None
other_end (c ∷ cs) p = if same_port c.a p then Some c.b else if same_port c.b p then Some c.a else other_end cs p

-- the version of the frames on the cable at this port, and another where there is none
abbrev pub version_at : ℕ → List CablePart → PortRef → ℕ
version_at other [] p = other
version_at other (c ∷ cs) p = if same_port c.a p || same_port c.b p then c.version else version_at other cs p

-- the place of the host at this port
abbrev pub host_from : ℕ → List HostPart → PortRef → Option ℕ
host_from n [] p = None
host_from n (h ∷ hs) p = if same_port h.at p then Some n else host_from (suc n) hs p

abbrev pub host_at : Parts → PortRef → Option ℕ
host_at parts p = host_from 0 parts.hosts p

abbrev pub has_cable : Parts → PortRef → Bool
has_cable parts p = list_any (λ c. same_port c.a p || same_port c.b p) parts.cables

abbrev pub has_host : Parts → PortRef → Bool
has_host parts p = list_any (λ h. same_port h.at p) parts.hosts

-- a port is used where a cable ends or a host stands
abbrev pub is_used : Parts → PortRef → Bool
is_used parts p = has_cable parts p || has_host parts p

-- how many ports a device has
abbrev pub ports_of : Parts → ℕ → ℕ
ports_of parts d = slice_index_or (map (λ part. part.ports) parts.devices) d 0

-- the used ports of a device, ascending
abbrev pub used_ports : Parts → ℕ → List ℕ
used_ports parts d = filter (λ p. is_used parts (record { device = d; port = p })) (below (ports_of parts d))
