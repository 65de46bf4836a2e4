-- Trusted text for nodes, in part.
-- The registers of a unit, with wrapped ids, and what a stamped message makes of them (Yaseen, Sonchack and Liu 2018).
use Rattle.std.specs.Prelude.{ℕ, ◌+◌, ◌-◌, ◌<◌, Bool, ◌&&◌, List, min, nat_lt, nat_le, if◌then◌else◌, replicate, slice_index_or, slice_set}
use Rattle.sl_ids.specs.declared.wid.Wid.{Wid}
use Rattle.sl_ids.specs.Ids.{distance}
use Rattle.sl_net.specs.declared.input.Packet.{Packet}
use Rattle.sl_saves.specs.declared.entry.View.{View}
use Rattle.sl_saves.specs.Views.{last_count, free_slot}
use Rattle.sl_saves.specs.Keeping.{view_adopted, view_credited}
use Rattle.sl_wire.specs.Wids.{no_wid}
use Rattle.sl_wire.specs.declared.message.Dump.{Dump}
use Rattle.sl_unit.specs.declared.registers.Channel.{Channel}
use Rattle.sl_unit.specs.declared.registers.Channel.TheVariants.{Cpu, Upstream}
use Rattle.sl_unit.specs.declared.registers.RelativeStamp.{RelativeStamp}

-- the id; the last-seen ids of its control plane and of its data channels in order, eight with 0 past them; what it counted; what it
-- dropped; what it saved
pub record Registers : Type 0 where
  pub id : Wid
  pub cpu : Wid
  pub last : List Wid
  pub packets : ℕ
  pub bytes : ℕ
  pub bad : ℕ
  pub expired : ℕ
  pub noroute : ℕ
  pub saved : View

-- those of a new unit whose ring has so many slots
abbrev pub first_registers : ℕ → Registers
first_registers ring = record {
  id = no_wid;
  cpu = no_wid;
  last = replicate 8 no_wid;
  packets = 0;
  bytes = 0;
  bad = 0;
  expired = 0;
  noroute = 0;
  saved = record { at = 0; slots = replicate ring free_slot };
}

-- a counter stays at the last value of its type
abbrev pub more : ℕ → ℕ → ℕ
more n by = min (n + by) last_count

abbrev pub last_on : Channel → Registers → Wid
last_on Cpu r = r.cpu
last_on (Upstream i) r = slice_index_or r.last i no_wid

-- a stamp is read relative to the last-seen id of its channel: how far it lies above that one, and how far the unit's id does
abbrev pub read_on : ℕ → Channel → Wid → Registers → RelativeStamp
read_on bits channel stamp r =
    record { stamp = stamp; ahead = distance bits (last_on channel r).raw stamp.raw; lead = distance bits (last_on channel r).raw r.id.raw }

-- by how much a stamp is newer than the id, and by how much it is older
abbrev pub rise : RelativeStamp → ℕ
rise x = x.ahead - x.lead

abbrev pub age : RelativeStamp → ℕ
age x = x.lead - x.ahead

-- it lies at most the window above the last one on its channel, and at most the window from the id
abbrev pub is_near : ℕ → RelativeStamp → Bool
is_near window x = nat_le x.ahead window && (nat_le (rise x) window && nat_le (age x) window)

-- a newer stamp becomes the id, and the counters are saved for it; the ids between are skipped
abbrev pub adopted : RelativeStamp → Registers → Registers
adopted x r = if nat_lt 0 (rise x) then record r { id = x.stamp; saved = view_adopted (rise x) r.packets r.bytes r.saved } else r

-- a data packet with an older stamp was in flight, and is credited to n saved numbers at most, from the id down
abbrev pub credited : ℕ → ℕ → RelativeStamp → ℕ → Registers → Registers
credited n channel x bytes r =
    if nat_lt 0 (age x) then record r { saved = view_credited n (record { channel = channel; age = age x; bytes = bytes }) r.saved } else r

abbrev pub seen : Channel → Wid → Registers → Registers
seen Cpu stamp r = record r { cpu = stamp }
seen (Upstream i) stamp r = record r { last = slice_set r.last i stamp }

abbrev pub counted : ℕ → Registers → Registers
counted bytes r = record r { packets = more r.packets 1; bytes = more r.bytes bytes }

-- after a stamp without data, after a data packet of so many bytes, and after a data packet
abbrev pub after_stamp : Channel → RelativeStamp → Registers → Registers
after_stamp channel x r = seen channel x.stamp (adopted x r)

abbrev pub after_bytes : ℕ → ℕ → RelativeStamp → ℕ → Registers → Registers
after_bytes n channel x bytes r = counted bytes (seen (Upstream channel) x.stamp (credited n channel x bytes (adopted x r)))

abbrev pub after_data : ℕ → ℕ → RelativeStamp → Packet → Registers → Registers
after_data n channel x p r = after_bytes n channel x p.len r

abbrev pub dump_of : Registers → Dump
dump_of r = record { id = r.id; cpu = r.cpu; last = r.last; view = r.saved }

-- there is such a register
abbrev pub IsChannel : Channel → Type 0
IsChannel Cpu = Unit {0}
IsChannel (Upstream i) = i < 8
