-- Trusted text.
-- The tables of the input, one after the other: in each the keys that it may have, then each key in
-- order, with its kind, its form and its range.
use Rattle.std.specs.Prelude.{ℕ, suc, pos, ◌+◌, ◌-◌, ◌^◌, min, nat_lt, if◌then◌else◌, List, [], ◌∷◌, Option, Some, None, Result, Ok, Err}
use Rattle.toml.specs.Data.{Items, no_items, item, Members}
use Rattle.sl_parts.specs.declared.parts.DevicePart.{DevicePart}
use Rattle.sl_net.specs.declared.input.Snapshot.{Snapshot}
use Rattle.sl_form.specs.declared.path.TableName.TheVariants as table
use Rattle.sl_form.specs.declared.path.Key.TheVariants.{Name, Ports, A, B, At, Bits, Window, Ring, Count, Retries, Credits, Version, Seed, Cable, Crossbar, Init, Notice, Drop, Link, N, From, To, Bytes, Hops, Hex, Entries}
use Rattle.sl_form.specs.declared.refusal.Refusal.{Refusal}
use Rattle.sl_form.specs.declared.refusal.Refusal.TheVariants.{Range}
use Rattle.sl_read.specs.declared.cable.CableRow.{CableRow}
use Rattle.sl_read.specs.declared.host.HostRow.{HostRow}
use Rattle.sl_read.specs.declared.flow.FlowRow.{FlowRow}
use Rattle.sl_read.specs.declared.raw.RawRow.{RawRow}
use Rattle.sl_read.specs.declared.loss.DropRow.{DropRow}
use Rattle.sl_read.specs.declared.loss.LossRow.{LossRow}
use Rattle.sl_form.specs.Paths.{at, element}
use Rattle.sl_form.specs.Refusals.{◌>>=◌}
use Rattle.sl_form.specs.Fields.{only, get_key, required, required_number, optional_number, given_number, required_text, required_form, text_at}
use Rattle.sl_form.specs.Forms.{name_of, port_of, hex_of}
use Rattle.sl_read.specs.Rows.{items_at, optional_tables, rows}

abbrev pub device_of : ℕ → Members → Result DevicePart Refusal
device_of i ms = do
  _ ← only (table.Device i) (Name ∷ Ports ∷ []) ms
  name ← required_form name_of (table.Device i) Name ms
  ports ← required_number (table.Device i) Ports 0 65535 ms
  Ok (record { name = name; ports = ports })

abbrev pub cable_of : ℕ → Members → Result CableRow Refusal
cable_of i ms = do
  _ ← only (table.Cable i) (A ∷ B ∷ Version ∷ []) ms
  a ← required_form port_of (table.Cable i) A ms
  b ← required_form port_of (table.Cable i) B ms
  version ← given_number (table.Cable i) Version 1 2 ms
  Ok (record { a = a; b = b; version = version })

abbrev pub host_of : ℕ → Members → Result HostRow Refusal
host_of i ms = do
  _ ← only (table.Host i) (Name ∷ At ∷ []) ms
  name ← required_form name_of (table.Host i) Name ms
  at ← required_form port_of (table.Host i) At ms
  Ok (record { name = name; at = at })

abbrev pub snapshot_of : Members → Result Snapshot Refusal
snapshot_of ms = do
  _ ← only table.Snapshot (Bits ∷ Window ∷ Ring ∷ Count ∷ Retries ∷ Credits ∷ Version ∷ []) ms
  bits ← required_number table.Snapshot Bits 1 16 ms
  window ← required_number table.Snapshot Window 1 (min (2 ^ bits - 1) 1024) ms
  ring ← required_number table.Snapshot Ring window (min (2 ^ bits) 1024) ms
  count ← required_number table.Snapshot Count 0 100000 ms
  retries ← optional_number table.Snapshot Retries 0 100 ms
  credits ← optional_number table.Snapshot Credits 1 4 ms
  version ← optional_number table.Snapshot Version 1 2 ms
  Ok (record { width = bits; window = window; ring = ring; count = count; retries = retries; credits = credits; version = version })

abbrev pub drop_of : ℕ → Members → Result DropRow Refusal
drop_of i ms = do
  _ ← only (table.Drop i) (Link ∷ N ∷ []) ms
  link ← required_text (table.Drop i) Link ms
  n ← required_number (table.Drop i) N 1 1000000000 ms
  Ok (record { link = link; n = n })

abbrev pub count_items : Items → ℕ
count_items no_items = 0
count_items (item d ds) = suc (count_items ds)

-- at most 1000 listed losses
abbrev pub few_drops : Items → Result Items Refusal
few_drops ds = if nat_lt 1000 (count_items ds) then Err (Range (at table.Loss Drop) (pos (count_items ds))) else Ok ds

abbrev pub drops_at : Members → Result Items Refusal
drops_at ms = optional_tables table.Loss Drop ms >>= few_drops

abbrev pub loss_of : Members → Result LossRow Refusal
loss_of ms = do
  _ ← only table.Loss (Seed ∷ Cable ∷ Crossbar ∷ Init ∷ Notice ∷ Drop ∷ []) ms
  seed ← optional_number table.Loss Seed 0 9223372036854775807 ms
  cable ← optional_number table.Loss Cable 0 1000 ms
  crossbar ← optional_number table.Loss Crossbar 0 1000 ms
  init ← optional_number table.Loss Init 0 1000 ms
  notice ← optional_number table.Loss Notice 0 1000 ms
  tables ← drops_at ms
  drops ← rows table.Loss Drop drop_of 0 tables
  Ok (record { seed = seed; cable = cable; crossbar = crossbar; init = init; notice = notice; drops = drops })

-- nothing is lost where the table is absent
abbrev pub any_loss_of : Option Members → Result LossRow Refusal
any_loss_of None = Ok (record { seed = 0; cable = 0; crossbar = 0; init = 0; notice = 0; drops = [] })
any_loss_of (Some ms) = loss_of ms

abbrev pub flow_of : ℕ → Members → Result FlowRow Refusal
flow_of i ms = do
  _ ← only (table.Flow i) (From ∷ To ∷ Count ∷ Bytes ∷ Hops ∷ []) ms
  from ← required_form name_of (table.Flow i) From ms
  to ← required_form name_of (table.Flow i) To ms
  count ← required_number (table.Flow i) Count 0 20000 ms
  bytes ← required_number (table.Flow i) Bytes 0 65535 ms
  hops ← required_number (table.Flow i) Hops 0 255 ms
  Ok (record { from = from; to = to; count = count; bytes = bytes; hops = hops })

abbrev pub raw_of : ℕ → Members → Result RawRow Refusal
raw_of i ms = do
  _ ← only (table.Raw i) (From ∷ Hex ∷ []) ms
  from ← required_form name_of (table.Raw i) From ms
  bytes ← required_form hex_of (table.Raw i) Hex ms
  Ok (record { from = from; bytes = bytes })

abbrev pub entries_at : Members → Result Items Refusal
entries_at ms = required (at table.Script Entries) items_at (get_key Entries ms)

-- each entry is a text, from place i on
abbrev pub texts_of : ℕ → Items → Result (List (List ℕ)) Refusal
texts_of i no_items = Ok []
texts_of i (item d ds) = text_at (element table.Script Entries i) d >>= (λ text. texts_of (i + 1) ds >>= (λ rest. Ok (text ∷ rest)))

abbrev pub script_of : Members → Result (List (List ℕ)) Refusal
script_of ms = do
  _ ← only table.Script (Entries ∷ []) ms
  entries ← entries_at ms
  texts_of 0 entries

-- no entries where the table is absent
abbrev pub any_script_of : Option Members → Result (List (List ℕ)) Refusal
any_script_of None = Ok []
any_script_of (Some ms) = script_of ms
