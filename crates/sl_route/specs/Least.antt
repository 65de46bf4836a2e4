-- Trusted text.
-- The least of some numbers.
use Rattle.std.specs.Prelude.{ℕ, min, List, [], ◌∷◌, Option, Some, None, unwrap_or}

-- the least of a number, where there is one, and others
abbrev pub least_in : Option ℕ → List ℕ → Option ℕ
least_in o [] = o
least_in o (x ∷ xs) = least_in (Some (min (unwrap_or o x) x)) xs

-- the least of some numbers, where there are any
abbrev pub least : List ℕ → Option ℕ
least xs = least_in None xs
