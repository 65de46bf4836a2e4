-- Trusted text for nodes, in part.
-- A view of a ring of slots: what it shows of saved entries, and what the walk back over it reads.
use Rattle.std.specs.Prelude.{◌≡◌, ℕ, suc, zero, ◌+◌, ◌-◌, ◌%◌, ◌<◌, ◌≤◌, ◌^◌, min, Bool, ◌&&◌, List, [], ◌∷◌, length, map, filter, nat_lt, nat_le, ◌==◌, if◌then◌else◌, Option, Some, None, unwrap_or, slice_index_or}
use Rattle.std.specs.List.{AllByRecursion}
use Rattle.sl_saves.specs.declared.entry.Total.{Total}
use Rattle.sl_saves.specs.declared.entry.Slot.{Slot}
use Rattle.sl_saves.specs.declared.entry.View.{View}
use Rattle.sl_saves.specs.declared.entry.Saved.{Saved}
use Rattle.sl_saves.specs.declared.entry.Saved.TheVariants.{Value, Skipped, Miscredited}
use Rattle.sl_saves.specs.Calls.{Call, Save, number, saves, IsRising, totals, greatest}

-- Totals stay at the last value of their type.

abbrev pub last_count : ℕ
last_count = 2 ^ 64 - 1

-- a total as a slot holds it
abbrev pub held : Total → Total
held t = record { packets = min t.packets last_count; bytes = min t.bytes last_count }

-- an answer with its totals as a slot holds them
abbrev pub held_saved : Saved → Saved
held_saved (Value packets bytes inflight) = Value packets bytes (map held inflight)
held_saved (Skipped to) = Skipped to
held_saved (Miscredited by reach) = Miscredited by reach

-- its totals fit their type
abbrev pub IsFitting : Saved → Type 0
IsFitting (Value packets bytes inflight) = AllByRecursion (λ t. (t.packets < 2 ^ 64) × (t.bytes < 2 ^ 64)) inflight
IsFitting (Skipped to) = Unit {0}
IsFitting (Miscredited by reach) = Unit {0}

-- What a view shows.

-- an entry as a slot
abbrev pub slot_of : Save → Slot
slot_of s = record { packets = s.packets; bytes = s.bytes; inflight = map held (totals s.credits); back = s.by; reach = greatest s.feet }

-- a slot in which nothing is saved
abbrev pub free_slot : Slot
free_slot = record { packets = 0; bytes = 0; inflight = totals []; back = 0; reach = 0 }

-- what stands past the end of a list of slots
abbrev pub no_slot : Slot
no_slot = record { packets = 0; bytes = 0; inflight = []; back = 0; reach = 0 }

-- an entry that lies less than the ring's size below a number stands in the slot of its own number
abbrev pub IsSeen : List Slot → ℕ → Save → Type 0
IsSeen slots id s = id < s.number + length slots → slice_index_or slots (s.number % length slots) no_slot ≡ slot_of s

-- a view shows what calls saved, with credits to n entries at most: `at` is the last number's slot, each entry less than a ring below it stands
-- in its slot, and nothing is saved in the slot of 0 before a ring of numbers has come
pub record IsShown (n : ℕ) (view : View) (calls : List Call) : Type 0 where
  pub rising : IsRising calls
  pub some : 1 ≤ length view.slots
  pub at : view.at ≡ number calls % length view.slots
  pub seen : AllByRecursion (IsSeen view.slots (number calls)) (saves n calls)
  pub start : number calls < length view.slots → (slice_index_or view.slots 0 no_slot).back ≡ 0

-- The walk. It knows the slot of a number by how far the number lies below the id, whose slot is `at`.

-- the place that lies d below another, in a ring of some size
abbrev pub place_below : ℕ → ℕ → ℕ → ℕ
place_below size at d = if nat_le d at then at - d else at + size - d

-- a slot that is read, with its number
pub record Place : Type 0 where
  pub number : ℕ
  pub slot : Slot

-- the slot of the number j, where the id is known
abbrev pub slot_in : View → ℕ → ℕ → Slot
slot_in view id j = slice_index_or view.slots (place_below (length view.slots) view.at (id - j)) no_slot

-- the places from the number j by `back` down to k, at most n, where `slot` gives the slot of a number
abbrev pub path : ℕ → (ℕ → Slot) → ℕ → ℕ → List Place
path zero slot j k = []
path (suc n) slot j k = if nat_lt j k then [] else record { number = j; slot = slot j }
    ∷ (if j == k then [] else path n slot (j - (slot j).back) k)

-- the places that the walk for k reads
abbrev pub walk : View → ℕ → ℕ → List Place
walk view id k = path (suc (id - k)) (slot_in view id) id k

-- each slot that the walk for k reads is live
abbrev pub IsLive : View → ℕ → ℕ → Type 0
IsLive view id k = AllByRecursion (λ p. 1 ≤ p.slot.back) (walk view id k)

abbrev pub find_place : ℕ → List Place → Option Place
find_place k [] = None
find_place k (p ∷ ps) = if p.number == k then Some p else find_place k ps

abbrev pub last_place : List Place → Option Place
last_place [] = None
last_place (p ∷ ps) = Some (unwrap_or (last_place ps) p)

-- whether it lies above k and reaches below k
abbrev pub is_bad : ℕ → Place → Bool
is_bad k p = nat_lt k p.number && nat_lt (p.number - k) p.slot.reach

abbrev pub place_number_or : ℕ → Option Place → ℕ
place_number_or n None = n
place_number_or n (Some p) = p.number

-- from the place of k, the last place that miscredits k, and the last place of all
abbrev pub answer : Option Place → Option Place → Option Place → Saved
answer None bad last = Skipped (place_number_or 0 last)
answer (Some p) (Some b) last = Miscredited b.number b.slot.reach
answer (Some p) None last = Value p.slot.packets p.slot.bytes p.slot.inflight

-- what a view answers for the number k
abbrev pub read : View → ℕ → ℕ → Saved
read view id k = let ps = walk view id k in answer (find_place k ps) (last_place (filter (is_bad k) ps)) (last_place ps)
