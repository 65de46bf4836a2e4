-- What a dump tells of a unit: the last-seen ids of its data channels, and its rows.
use Rattle.std.specs.Prelude.{ℕ, suc, ◌+◌, ◌-◌, Bool, ◌&&◌, List, map, length, nat_lt, nat_le, ◌==◌, if◌then◌else◌, slice_index_or}
use Rattle.std.specs.List.{list_all, range_with_len}
use Rattle.sl_saves.specs.declared.entry.View.{View}
use Rattle.sl_saves.specs.declared.entry.Saved.{Saved}
use Rattle.sl_saves.specs.Calls.{channels}
use Rattle.sl_saves.specs.Views.{walk, read}

-- the numbers above a, up to b
abbrev pub span : ℕ → ℕ → List ℕ
span a b = range_with_len (suc a) (b - a)

-- the last-seen ids of so many data channels, 0 past them
abbrev pub seen_on : ℕ → List ℕ → List ℕ
seen_on count last = map (λ c. if nat_lt c count then slice_index_or last c 0 else 0) channels

-- a view has the size of a ring, and its place lies in it
abbrev pub is_sized : ℕ → View → Bool
is_sized ring view = nat_lt view.at (length view.slots) && (length view.slots == ring)

-- each slot that the walk for k reads is live
abbrev pub is_live : View → ℕ → ℕ → Bool
is_live view id k = list_all (λ p. nat_le 1 p.slot.back) (walk view id k)

-- k lies less than a ring below the id of the view, and the walk for it reads live slots
abbrev pub is_readable : View → ℕ → ℕ → Bool
is_readable view id k = nat_lt id (k + length view.slots) && is_live view id k

-- a number with what was saved for it
abbrev pub row : View → ℕ → ℕ → ℕ × Saved
row view id k = (k, read view id k)
