-- The number that a unit has reached.
use Rattle.std.specs.Prelude.{ℕ, min, List, take}
use Rattle.std.specs.List.{fold}

-- the least of the id and the last-seen ids of so many data channels
abbrev pub reached : ℕ → ℕ → List ℕ → ℕ
reached count id last = fold min id (take count last)
