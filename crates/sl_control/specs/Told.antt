-- What a dump tells of a unit, with the number that it has reached: each is what it is by the numbers that the dump tells.
--     told_of n r      what the numbers n tell of the unit r
-- and by what is told: whether the dump can be read, its rows, the Done, what is known afterwards, and what is put. Of `told_of n r` these are
-- `is_read`, `rows_of`, `dump_floor`, `done_of`, `answered` and `answer_by` of n and r.
use Rattle.std.specs.Prelude.{ℕ, min, max, Bool, false, ◌&&◌, List, [], ◌∷◌, map, if◌then◌else◌}
use Rattle.std.specs.List.{list_all}
use Rattle.sl_saves.specs.declared.entry.Saved.{Saved}
use Rattle.sl_saves.specs.declared.entry.View.{View}
use Rattle.sl_wire.specs.declared.message.Done.{Done}
use Rattle.sl_wire.specs.declared.message.Msg.{Msg}
use Rattle.sl_wire.specs.declared.message.Msg.TheVariants.{Done as DoneMsg}
use Rattle.sl_wire.specs.Carried.{poll}
use Rattle.sl_control.specs.declared.known.Known.{Known}
use Rattle.sl_control.specs.declared.known.Numbers.{Numbers}
use Rattle.sl_control.specs.declared.known.Told.{Told}
use Rattle.sl_control.specs.Control.{reached_by}
use Rattle.sl_control.specs.Rows.{span, seen_on, is_sized, is_readable, row}

abbrev pub told_of : Numbers → Known → Told
told_of n r = record { id = n.id; cpu = n.cpu; last = seen_on r.wires.channels n.last; reached = reached_by n r }

abbrev pub is_read_by : ℕ → Told → View → Known → Bool
is_read_by ring t view r = r.waits && (is_sized ring view && list_all (is_readable view t.id) (span r.upto t.reached))

abbrev pub rows_by : Told → View → Known → List (ℕ × Saved)
rows_by t view r = map (row view t.id) (span r.upto t.reached)

abbrev pub floor_by : Told → Known → ℕ
floor_by t r = if r.wires.ingress then min t.reached t.cpu else t.reached

abbrev pub done_by : Told → View → Known → Done
done_by t view r = record { unit = r.wires.place; id = t.id; last = t.last; floor = floor_by t r; rows = rows_by t view r }

abbrev pub answered_by : Told → Known → Known
answered_by t r = record {
  wires = r.wires;
  id = t.id;
  last = t.last;
  cpu = t.cpu;
  upto = max r.upto t.reached;
  waits = r.again;
  again = false;
}

abbrev pub puts_by : ℕ → Told → View → Known → List (ℕ × Msg)
puts_by done t view r = (done, DoneMsg (done_by t view r)) ∷ (if r.again then (r.wires.poll, poll) ∷ [] else [])
