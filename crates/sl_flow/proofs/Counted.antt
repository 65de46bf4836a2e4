-- A list that is made of the numbers below a number, with one more.
use Rattle.std.proofs.Common.{◌≡◌, ℕ, ◌+◌, ◌∷◌, [], ◌++◌, map, zero-add}
use Rattle.std.proofs.lemmas.List.FromFn.{map-range_with_len_more}
use Rattle.sl_parts.specs.Parts.{below}

pub map_below_more : {A : Type 0} (f : ℕ → A) (n : ℕ) → map f (below (n + 1)) ≡ map f (below n) ++ f n ∷ []
map_below_more f n = map-range_with_len_more f 0 n n (zero-add n)
