-- Trusted text, but for spread_from_sums.
-- The least and the greatest of some numbers, and how far they are apart.
--     spread xs    over all pairs of them, the squares of their differences, added up
use Rattle.std.specs.Prelude.{ℕ, ◌+◌, ◌-◌, ◌*◌, min, max, List, [], ◌∷◌, length, sum, sum_by}

abbrev pub square : ℕ → ℕ
square n = n * n

abbrev pub difference : ℕ → ℕ → ℕ
difference a b = max a b - min a b

abbrev pub spread : List ℕ → ℕ
spread [] = 0
spread (x ∷ xs) = sum_by (λ y. square (difference x y)) xs + spread xs

-- the least of a number and others
abbrev pub lowest_of : ℕ → List ℕ → ℕ
lowest_of n [] = n
lowest_of n (x ∷ xs) = lowest_of (min n x) xs

-- the greatest of a number and others
abbrev pub highest_of : ℕ → List ℕ → ℕ
highest_of n [] = n
highest_of n (x ∷ xs) = highest_of (max n x) xs

-- the spread from two sums
abbrev pub spread_from_sums : List ℕ → ℕ
spread_from_sums xs = length xs * sum_by square xs - square (sum xs)
