-- A loop that keeps the numbers of a list that pass a test.
use Rattle.std.proofs.Common.{◌≡◌, ℕ, ◌+◌, ◌<◌, List, [], ◌∷◌, ◌++◌, length, take, get_or, ap, sym, ◌∙◌}
use Rattle.std.specs.Prelude.{Bool, cond, filter}
use Rattle.std.proofs.lemmas.List.Elements.{filter_more}

pub passing_more : (test : ℕ → Bool) (xs : List ℕ) (i : ℕ) (b : Bool) (out new : List ℕ) → i < length xs → b ≡ test (get_or xs i 0) → new ≡ out ++ cond b (get_or xs i 0 ∷ []) [] → out ≡ filter test (take i xs) → new ≡ filter test (take (i + 1) xs)
passing_more test xs i b out new h is e so_far =
    e ∙ ap (λ (ys : List ℕ). ys ++ cond b (get_or xs i 0 ∷ []) []) so_far ∙ ap (λ (t : Bool). filter test (take i xs) ++ cond t (get_or xs i 0 ∷ []) []) is ∙ sym (filter_more test xs i 0 h)
