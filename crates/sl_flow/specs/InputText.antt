-- Trusted text.
-- An input that has no drop, raw frame and script entry as a TOML document, a line for each key. Rows of a list are parted by a comma and a space.
use Rattle.std.specs.Prelude.{ℕ, List, ◌++◌, codes, decimal}
use Rattle.std.specs.List.{join_by}
use Rattle.sl_parts.specs.declared.parts.PortRef.{PortRef}
use Rattle.sl_parts.specs.declared.parts.CablePart.{CablePart}
use Rattle.sl_parts.specs.declared.parts.DevicePart.{DevicePart}
use Rattle.sl_parts.specs.declared.parts.HostPart.{HostPart}
use Rattle.sl_net.specs.declared.input.Snapshot.{Snapshot}
use Rattle.sl_net.specs.declared.input.Flow.{Flow}
use Rattle.sl_parts.specs.Parts.{Parts}
use Rattle.sl_net.specs.Input.{Input, LossSpec}
use Rattle.sl_net.specs.Spelling.{device_name, host_name}
use Rattle.sl_flow.specs.Sample.{sample_parts}

unfoldable pub port_text : Parts → PortRef → List ℕ
port_text parts p = device_name parts p.device ++ (codes "." ++ decimal p.port)

unfoldable pub device_row : Parts → DevicePart → List ℕ
device_row parts d = codes "{name = \"" ++ (d.name ++ (codes "\", ports = " ++ (decimal d.ports ++ codes "}")))

unfoldable pub cable_row : Parts → CablePart → List ℕ
cable_row parts c = codes "{a = \"" ++ (port_text parts c.a ++ (codes "\", b = \"" ++ (port_text parts c.b ++ codes "\"}")))

unfoldable pub host_row : Parts → HostPart → List ℕ
host_row parts h = codes "{name = \"" ++ (h.name ++ (codes "\", at = \"" ++ (port_text parts h.at ++ codes "\"}")))

unfoldable pub flow_row : Parts → Flow → List ℕ
flow_row parts f = codes "{from = \"" ++ (host_name parts f.from ++ (codes "\", to = \"" ++ (host_name parts f.to
    ++ (codes "\", count = " ++ (decimal f.count ++ (codes ", bytes = " ++ (decimal f.bytes ++ (codes ", hops = " ++ (decimal f.hops ++ codes "}")))))))))

-- the rows of a list
abbrev pub rows_text : {A : Type 0} → (A → List ℕ) → List A → List ℕ
rows_text row rows = join_by row (codes ", ") rows

unfoldable pub list_line : {A : Type 0} → List ℕ → (A → List ℕ) → List A → List ℕ
list_line key row rows = key ++ (codes " = [" ++ (rows_text row rows ++ codes "]\n"))

unfoldable pub snapshot_line : Snapshot → List ℕ
snapshot_line s = codes "snapshot = {bits = " ++ (decimal s.width ++ (codes ", window = " ++ (decimal s.window ++ (codes ", ring = " ++ (decimal s.ring
    ++ (codes ", count = " ++ (decimal s.count ++ (codes ", retries = " ++ (decimal s.retries ++ codes "}\n")))))))))

unfoldable pub loss_line : LossSpec → List ℕ
loss_line l = codes "loss = {seed = " ++ (decimal l.seed ++ (codes ", cable = " ++ (decimal l.cable ++ (codes ", crossbar = " ++ (decimal l.crossbar
    ++ (codes ", init = " ++ (decimal l.init ++ (codes ", notice = " ++ (decimal l.notice ++ codes "}\n")))))))))

abbrev pub document : Parts → List Flow → Snapshot → LossSpec → List ℕ
document parts flows snapshot loss =
    list_line (codes "device") (device_row parts) parts.devices ++ (list_line (codes "cable") (cable_row parts) parts.cables
    ++ (list_line (codes "host") (host_row parts) parts.hosts ++ (list_line (codes "flow") (flow_row parts) flows ++ (snapshot_line snapshot ++ loss_line loss))))

abbrev pub input_text : Input → List ℕ
input_text input = document input.net.parts input.flows input.snapshot input.loss

-- the sample input of a number as text
abbrev pub sample_text : ℕ → List ℕ
sample_text n = input_text (sample_parts n)
