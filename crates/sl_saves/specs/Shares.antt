-- Slots that a ring shares with its views.
--     AgreesBut places a b         two lists have the same slots but at some places
--     IsKeptAs held slots          what is shared are these slots, but where it is noted that they were written
use Rattle.std.specs.Prelude.{◌≡◌, ◌≢◌, ℕ, false, List, length, slice_index_or}
use Rattle.std.specs.Arc.{arc_value}
use Rattle.std.specs.List.{AllByRecursion}
use Rattle.sl_saves.specs.declared.entry.Slot.{Slot}
use Rattle.sl_saves.specs.declared.shared.Shared.{Shared}
use Rattle.sl_saves.specs.Views.{no_slot}

abbrev pub AgreesBut : List ℕ → List Slot → List Slot → Type 0
AgreesBut places a b = (p : ℕ) → AllByRecursion (λ q. q ≢ p) places → slice_index_or a p no_slot ≡ slice_index_or b p no_slot

pub record IsKeptAs (held : Shared) (slots : List Slot) : Type 0 where
  pub long : length (arc_value held.slots).items ≡ length slots
  pub same : held.stale ≡ false → AgreesBut held.written.items (arc_value held.slots).items slots
