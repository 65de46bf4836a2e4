-- Trusted text, in part.
-- What an adoption and a credit make of the view of a ring, and of a list of all entries.
use Rattle.std.specs.Prelude.{◌≡◌, ℕ, zero, suc, ◌+◌, ◌-◌, ◌%◌, ◌≤◌, min, max, Bool, true, false, ◌||◌, List, [], ◌∷◌, ◌++◌, length, map, reverse, replicate, drop, nat_lt, nat_le, ◌==◌, if◌then◌else◌, slice_index_or, slice_set}
use Rattle.sl_saves.specs.declared.entry.Total.{Total}
use Rattle.sl_saves.specs.declared.entry.Slot.{Slot}
use Rattle.sl_saves.specs.declared.entry.View.{View}
use Rattle.sl_saves.specs.declared.entries.Entry.{Entry}
use Rattle.sl_saves.specs.Calls.{Call, Credit, Save, number, saves, lower, written_to, IsRising, totals}
use Rattle.sl_saves.specs.Views.{last_count, slot_of, free_slot, no_slot, place_below}

-- the place that lies `by` above another, in a ring of some size
abbrev pub place_above : ℕ → ℕ → ℕ → ℕ
place_above size at by = if nat_lt (at + by) size then at + by else at + by - size

-- a slot as an adoption writes it
abbrev pub new_slot : ℕ → ℕ → ℕ → Slot
new_slot by packets bytes = record { packets = packets; bytes = bytes; inflight = totals []; back = by; reach = 0 }

abbrev pub view_adopted : ℕ → ℕ → ℕ → View → View
view_adopted by packets bytes view = let at = place_above (length view.slots) view.at by in
    record { at = at; slots = slice_set view.slots at (new_slot by packets bytes) }

-- one data packet more, where totals stay at the last value of their type
abbrev pub grown : ℕ → Total → Total
grown bytes t = record { packets = min (t.packets + 1) last_count; bytes = min (t.bytes + bytes) last_count }

abbrev pub no_total : Total
no_total = record { packets = 0; bytes = 0 }

-- a slot to which a credit is written, which is its foot or not
abbrev pub slot_credited : Bool → Credit → Slot → Slot
slot_credited is_foot c s = record s {
  inflight = slice_set s.inflight c.channel (grown c.bytes (slice_index_or s.inflight c.channel no_total));
  reach = if is_foot then max s.reach c.age else s.reach;
}

-- A credit to n slots at most, from one place on. It ends where the slot before lies at or below the stamp, or nothing is saved there.

abbrev pub is_last : ℕ → Credit → ℕ → List Slot → Bool
is_last n c place slots = let back = (slice_index_or slots place no_slot).back in
    n == 0 || (nat_le c.age back || (slice_index_or slots (place_below (length slots) place back) no_slot).back == 0)

abbrev pub slots_credited : ℕ → Credit → ℕ → List Slot → List Slot
slots_credited zero c place slots = slots
slots_credited (suc n) c place slots = let s = slice_index_or slots place no_slot in
    if is_last n c place slots then slice_set slots place (slot_credited true c s)
    else slots_credited n (lower s.back c) (place_below (length slots) place s.back) (slice_set slots place (slot_credited false c s))

abbrev pub view_credited : ℕ → Credit → View → View
view_credited n c view = record view { slots = slots_credited n c view.at view.slots }

-- A list of all entries, oldest first, with the number that it has come to, for views of so many slots.

pub record EntryList : Type 0 where
  pub size : ℕ
  pub last : ℕ
  pub entries : List Entry

abbrev pub list_adopted : ℕ → ℕ → ℕ → EntryList → EntryList
list_adopted by packets bytes l =
    record l { last = l.last + by; entries = l.entries ++ record { number = l.last + by; slot = new_slot by packets bytes } ∷ [] }

abbrev pub entry_credited : Bool → Credit → Entry → Entry
entry_credited is_foot c e = record e { slot = slot_credited is_foot c e.slot }

-- a credit goes to n of the last entries at most
abbrev pub entries_credited : ℕ → Credit → List Entry → List Entry
entries_credited n c es = reverse (written_to (λ e. e.slot.back) entry_credited n c (reverse es))

abbrev pub list_credited : ℕ → Credit → EntryList → EntryList
list_credited n c l = record l { entries = entries_credited n c l.entries }

-- numbered slots written into a ring, later ones over earlier ones
abbrev pub written : List Slot → List Entry → List Slot
written slots [] = slots
written slots (e ∷ es) = written (slice_set slots (e.number % length slots) e.slot) es

-- its view: its last entries, as many as the ring has slots
abbrev pub list_view : EntryList → View
list_view l = record { at = l.last % l.size; slots = written (replicate l.size free_slot) (drop (length l.entries - l.size) l.entries) }

abbrev pub entry_of : Save → Entry
entry_of s = record { number = s.number; slot = slot_of s }

-- it holds what calls saved, with credits to n entries at most
pub record IsListed (n : ℕ) (l : EntryList) (calls : List Call) : Type 0 where
  pub rising : IsRising calls
  pub some : 1 ≤ l.size
  pub last : l.last ≡ number calls
  pub entries : l.entries ≡ reverse (map entry_of (saves n calls))
