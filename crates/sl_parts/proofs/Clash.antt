-- Walks that look for the first element that clashes with those before it.
use Rattle.std.proofs.Common.{◌≡◌, ℕ, ◌+◌, ◌<◌, List, [], ◌∷◌, ◌++◌, length, get_or, take, drop, refl, sym, ap, ◌∙◌, arith, Bool, true, false, Some, add-one, drop-cons}
use Rattle.std.specs.Prelude.{if◌then◌else◌}
use Rattle.std.proofs.lemmas.List.{take_more}
use Rattle.std.proofs.Common.{length-take}
use Rattle.sl_parts.specs.Fault.{first_clash}

one_more : {A : Type 0} (t : List A → A → Bool) (xs : List A) (i : ℕ) (d : A) → i < length xs
    → first_clash t (take i xs) (drop i xs) ≡ (if t (take i xs) (get_or xs i d) then Some i else first_clash t (take (i + 1) xs) (drop (i + 1) xs))
one_more t xs i d h =
    let few : length (take i xs) ≡ i = omega (arith, length-take i xs) in
    let more : take (i + 1) xs ≡ take i xs ++ get_or xs i d ∷ [] = take_more xs i d h in
    rw (drop-cons xs i d, few, ← more, add-one) refl

pub clash_here : {A : Type 0} (t : List A → A → Bool) (xs : List A) (i : ℕ) (d : A) → i < length xs → t (take i xs) (get_or xs i d) ≡ true
    → first_clash t (take i xs) (drop i xs) ≡ Some i
clash_here t xs i d h q = one_more t xs i d h ∙ ap (λ b. if b then Some i else first_clash t (take (i + 1) xs) (drop (i + 1) xs)) q

pub clash_later : {A : Type 0} (t : List A → A → Bool) (xs : List A) (i : ℕ) (d : A) → i < length xs → t (take i xs) (get_or xs i d) ≡ false
    → first_clash t (take (i + 1) xs) (drop (i + 1) xs) ≡ first_clash t (take i xs) (drop i xs)
clash_later t xs i d h q = sym (one_more t xs i d h ∙ ap (λ b. if b then Some i else first_clash t (take (i + 1) xs) (drop (i + 1) xs)) q)
