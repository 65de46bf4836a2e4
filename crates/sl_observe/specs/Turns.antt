-- What the turns of the observer take.
--     IsReported ts     one of them takes a Done with a row
use Rattle.std.specs.Prelude.{◌≡◌, ◌⊎◌, ℕ, List, [], ◌∷◌, Some, slice_get}
use Rattle.sl_machine.specs.Turns.{Turn, Took}
use Rattle.sl_saves.specs.declared.entry.Saved.{Saved}
use Rattle.sl_wire.specs.declared.message.Msg.{Msg}
use Rattle.sl_wire.specs.declared.message.Msg.TheVariants.{Done}

-- the turn takes a Done on the unit with this row for this number
abbrev pub Reports : Turn Msg → ℕ → ℕ → Saved → Type 0
Reports (Took link (Done d)) unit k row = (d.unit ≡ unit) × ((i : ℕ) × (slice_get d.rows i ≡ Some (k, row)))
Reports _ unit k row = ⊥

abbrev pub IsReported : List (Turn Msg) → ℕ → ℕ → Saved → Type 0
IsReported [] unit k row = ⊥
IsReported (t ∷ ts) unit k row = Reports t unit k row ⊎ IsReported ts unit k row
