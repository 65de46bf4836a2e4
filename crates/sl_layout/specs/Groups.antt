-- Places grouped by the keys that stand there.
use Rattle.std.specs.Prelude.{ℕ, ◌==◌, List, length, filter, slice_index}
use Rattle.sl_parts.specs.Parts.{below}
use Rattle.sl_layout.specs.Net.{place_in}

-- the places below n at which this key stands
abbrev pub grouped : List ℕ → ℕ → ℕ → List ℕ
grouped keys n key = filter (λ i. slice_index keys i == key) (below n)

-- a place's place among those of its key
abbrev pub places_in_groups : List ℕ → ℕ → ℕ
places_in_groups keys i = place_in 0 i (grouped keys (length keys) (slice_index keys i))

-- the places by keys, and each place's place among those of its key
pub record Sorted : Type 0 where
  pub lists : List (List ℕ)
  pub places : List ℕ
