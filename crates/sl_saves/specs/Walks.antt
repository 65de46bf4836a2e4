-- Steps of the walk.
use Rattle.std.specs.Prelude.{ℕ, Option, Some, None}
use Rattle.sl_saves.specs.declared.entry.Slot.{Slot}
use Rattle.sl_saves.specs.declared.entry.Saved.{Saved}
use Rattle.sl_saves.specs.declared.entry.Saved.TheVariants.{Value, Miscredited}

-- the answer at the slot of the number that is read, after the last miscredit on the way
abbrev pub stopped : Slot → Option (ℕ × ℕ) → Saved
stopped s (Some b) = Miscredited b.0 b.1
stopped s None = Value s.packets s.bytes s.inflight
