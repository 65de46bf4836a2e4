-- Trusted text.
-- Why parts are no net: the first of these reasons that applies.
use Rattle.std.specs.Prelude.{ℕ, Bool, not, ◌&&◌, ◌||◌, ◌==◌, nat_lt, if◌then◌else◌, List, [], ◌∷◌, ◌++◌, length, Option, Some, None, option_map, bytes_eq}
use Rattle.std.specs.List.{list_any, position}
use Rattle.sl_parts.specs.declared.parts.PortRef.{PortRef}
use Rattle.sl_parts.specs.declared.parts.CablePart.{CablePart}
use Rattle.sl_parts.specs.declared.parts.DevicePart.{DevicePart}
use Rattle.sl_parts.specs.declared.parts.HostPart.{HostPart}
use Rattle.sl_parts.specs.declared.fault.Place.TheVariants.{Device, Cable, Host}
use Rattle.sl_parts.specs.declared.fault.NetFault.{NetFault}
use Rattle.sl_parts.specs.declared.fault.NetFault.TheVariants.{N1, N2, N3, N4, N5, N6, N7, N8}
use Rattle.sl_parts.specs.Parts.{Parts, same_port, has_cable, ports_of}

-- the first that there is
abbrev pub first_of : {A : Type 0} → List (Option A) → Option A
first_of [] = None
first_of (None ∷ xs) = first_of xs
first_of (Some x ∷ xs) = Some x

-- the place of the first element that clashes with those before it
abbrev pub first_clash : {A : Type 0} → (List A → A → Bool) → List A → List A → Option ℕ
first_clash clashes before [] = None
first_clash clashes before (x ∷ xs) = if clashes before x then Some (length before) else first_clash clashes (before ++ x ∷ []) xs

-- the device is there and has this port
abbrev pub is_port : Parts → PortRef → Bool
is_port parts p = nat_lt p.device (length parts.devices) && nat_lt p.port (ports_of parts p.device)

abbrev pub has_wrong_ports : DevicePart → Bool
has_wrong_ports d = (d.ports == 0) || nat_lt 8 d.ports

abbrev pub is_stray_cable : Parts → CablePart → Bool
is_stray_cable parts c = not (is_port parts c.a) || not (is_port parts c.b)

abbrev pub is_stray_host : Parts → HostPart → Bool
is_stray_host parts h = not (is_port parts h.at)

-- a cable ends at this port
abbrev pub has_end : List CablePart → PortRef → Bool
has_end cables p = list_any (λ c. same_port c.a p || same_port c.b p) cables

-- a host stands at this port
abbrev pub has_guest : List HostPart → PortRef → Bool
has_guest hosts p = list_any (λ h. same_port h.at p) hosts

-- an end of the cable is a port of an earlier cable end
abbrev pub reuses_port : List CablePart → CablePart → Bool
reuses_port earlier c = has_end earlier c.a || (same_port c.a c.b || has_end earlier c.b)

-- a cable or an earlier host uses the host's port
abbrev pub takes_used_port : Parts → List HostPart → HostPart → Bool
takes_used_port parts earlier h = has_cable parts h.at || has_guest earlier h.at

abbrev pub device_named : List DevicePart → DevicePart → Bool
device_named earlier d = list_any (λ e. bytes_eq e.name d.name) earlier

abbrev pub host_named : List HostPart → HostPart → Bool
host_named earlier h = list_any (λ e. bytes_eq e.name h.name) earlier

-- The reasons, in their order.

abbrev pub no_device : Parts → Option NetFault
no_device parts = if length parts.devices == 0 then Some N1 else None

abbrev pub too_many_devices : Parts → Option NetFault
too_many_devices parts = if nat_lt 64 (length parts.devices) then Some (N2 (length parts.devices)) else None

abbrev pub wrong_ports : Parts → Option NetFault
wrong_ports parts = option_map N3 (position has_wrong_ports parts.devices)

abbrev pub stray_cable : Parts → Option NetFault
stray_cable parts = option_map (λ i. N4 (Cable i)) (position (is_stray_cable parts) parts.cables)

abbrev pub stray_host : Parts → Option NetFault
stray_host parts = option_map (λ i. N4 (Host i)) (position (is_stray_host parts) parts.hosts)

abbrev pub reused_port : Parts → Option NetFault
reused_port parts = option_map N5 (first_clash reuses_port [] parts.cables)

abbrev pub too_many_hosts : Parts → Option NetFault
too_many_hosts parts = if nat_lt 128 (length parts.hosts) then Some (N6 (length parts.hosts)) else None

abbrev pub used_host_port : Parts → Option NetFault
used_host_port parts = option_map N7 (first_clash (takes_used_port parts) [] parts.hosts)

abbrev pub device_namesake : Parts → Option NetFault
device_namesake parts = option_map (λ i. N8 (Device i)) (first_clash device_named [] parts.devices)

abbrev pub host_namesake : Parts → Option NetFault
host_namesake parts = option_map (λ i. N8 (Host i)) (first_clash host_named [] parts.hosts)

-- what is wrong with parts, if anything is
abbrev pub fault_of : Parts → Option NetFault
fault_of parts = first_of (no_device parts ∷ too_many_devices parts ∷ wrong_ports parts ∷ stray_cable parts ∷ stray_host parts ∷ reused_port parts ∷ too_many_hosts parts ∷ used_host_port parts ∷ device_namesake parts ∷ host_namesake parts ∷ [])
