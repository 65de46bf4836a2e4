-- The slots of a view: its own, or some that it shares.
--     slots_in shared items    those that are shared, or else its own
--     FitsRoom shared n        those that are shared, if any, are n at most
use Rattle.std.specs.Prelude.{ℕ, ◌≤◌, List, length, Option, Some, None}
use Rattle.std.specs.declared.sync.Arc.{Arc}
use Rattle.std.specs.declared.vec.Vec.{Vec}
use Rattle.std.specs.Arc.{arc_value}
use Rattle.sl_saves.specs.declared.entry.Slot.{Slot}

abbrev pub slots_in : {Z : Type 0} → Option (Arc (Vec Slot Z) Z) → List Slot → List Slot
slots_in None items = items
slots_in (Some a) items = (arc_value a).items

abbrev pub FitsRoom : {Z : Type 0} → Option (Arc (Vec Slot Z) Z) → ℕ → Type 0
FitsRoom None n = Unit {0}
FitsRoom (Some a) n = length (arc_value a).items ≤ n
