-- Trusted text for nodes, but for ring_size.
-- What saved entries in a ring of slots are.
use Rattle.std.specs.Prelude.{ℕ, length}
use Rattle.sl_saves.specs.declared.entry.View.{View}
use Rattle.sl_saves.specs.declared.ring.Ring.{Ring}
use Rattle.sl_saves.specs.declared.ring.RingSaves.{RingSaves}

abbrev pub view_of : Ring → View
view_of r = record { at = r.at; slots = r.slots }

abbrev pub ring_view : RingSaves → View
ring_view r = view_of r.ring

abbrev pub ring_window : RingSaves → ℕ
ring_window r = r.window

abbrev pub ring_size : RingSaves → ℕ
ring_size r = length r.ring.slots

abbrev pub ring_credits : RingSaves → ℕ
ring_credits r = r.credits
