-- Trusted text.
-- Names of devices and hosts, looked up: a name that stands twice is its first holder.
use Rattle.std.specs.Prelude.{ℕ, ◌+◌, List, [], ◌∷◌, Option, Some, None, unwrap_or, bytes_eq, Result, Ok, Err}
use Rattle.std.specs.List.{position}
use Rattle.sl_parts.specs.declared.parts.PortRef.{PortRef}
use Rattle.sl_parts.specs.declared.parts.CablePart.{CablePart}
use Rattle.sl_parts.specs.declared.parts.DevicePart.{DevicePart}
use Rattle.sl_parts.specs.declared.parts.HostPart.{HostPart}
use Rattle.sl_net.specs.declared.input.Flow.{Flow}
use Rattle.sl_net.specs.declared.input.RawPart.{RawPart}
use Rattle.sl_parts.specs.Parts.{Parts}
use Rattle.sl_form.specs.declared.path.TableName.TheVariants as table
use Rattle.sl_form.specs.declared.path.Key.TheVariants.{A, B, At, From, To}
use Rattle.sl_form.specs.declared.path.Path.{Path}
use Rattle.sl_form.specs.declared.refusal.Refusal.{Refusal}
use Rattle.sl_form.specs.declared.refusal.Refusal.TheVariants.{Unknown}
use Rattle.sl_form.specs.declared.forms.PortText.{PortText}
use Rattle.sl_read.specs.declared.cable.CableRow.{CableRow}
use Rattle.sl_read.specs.declared.host.HostRow.{HostRow}
use Rattle.sl_read.specs.declared.flow.FlowRow.{FlowRow}
use Rattle.sl_read.specs.declared.raw.RawRow.{RawRow}
use Rattle.sl_form.specs.Paths.{at}
use Rattle.sl_form.specs.Refusals.{◌>>=◌}

-- each element with its place, from place i on
module _ {A B : Type 0} (f : ℕ → A → Result B Refusal) where
  abbrev pub each : ℕ → List A → Result (List B) Refusal
  each i [] = Ok []
  each i (x ∷ xs) = f i x >>= (λ y. each (i + 1) xs >>= (λ ys. Ok (y ∷ ys)))

abbrev pub device_place : List DevicePart → List ℕ → Option ℕ
device_place devices name = position (λ d. bytes_eq d.name name) devices

abbrev pub host_place : List HostPart → List ℕ → Option ℕ
host_place hosts name = position (λ h. bytes_eq h.name name) hosts

-- what has to be there
abbrev pub known : {A : Type 0} → Path → Option A → Result A Refusal
known p None = Err (Unknown p)
known p (Some x) = Ok x

abbrev pub port_place : List DevicePart → Path → PortText → Result PortRef Refusal
port_place devices p port = known p (device_place devices port.device) >>= (λ d. Ok (record { device = d; port = port.port }))

-- a cable has the version of the snapshot table, where it gives none
abbrev pub cable_part : List DevicePart → ℕ → ℕ → CableRow → Result CablePart Refusal
cable_part devices version i cable = do
  a ← port_place devices (at (table.Cable i) A) cable.a
  b ← port_place devices (at (table.Cable i) B) cable.b
  Ok (record { a = a; b = b; version = unwrap_or cable.version version })

abbrev pub host_part : List DevicePart → ℕ → HostRow → Result HostPart Refusal
host_part devices i host = port_place devices (at (table.Host i) At) host.at >>= (λ port. Ok (record { name = host.name; at = port }))

unfoldable pub parts_of : List DevicePart → ℕ → List CableRow → List HostRow → Result Parts Refusal
parts_of devices version cable_rows host_rows = do
  cables ← each (cable_part devices version) 0 cable_rows
  hosts ← each (host_part devices) 0 host_rows
  Ok (record { devices = devices; cables = cables; hosts = hosts })

abbrev pub flow_part : List HostPart → ℕ → FlowRow → Result Flow Refusal
flow_part hosts i flow = do
  from ← known (at (table.Flow i) From) (host_place hosts flow.from)
  to ← known (at (table.Flow i) To) (host_place hosts flow.to)
  Ok (record { from = from; to = to; count = flow.count; bytes = flow.bytes; hops = flow.hops })

abbrev pub raw_part : List HostPart → ℕ → RawRow → Result RawPart Refusal
raw_part hosts i raw = known (at (table.Raw i) From) (host_place hosts raw.from) >>= (λ from. Ok (record { from = from; bytes = raw.bytes }))
