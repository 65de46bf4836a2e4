-- Texts joined by a separator, one text more at a time.
use Rattle.std.proofs.Common.{◌≡◌, ℕ, zero, suc, ◌+◌, ◌<◌, List, [], ◌∷◌, ◌++◌, length, sym, ap, ◌∙◌, get_or, take, arith, cond, false, append-nil, append_assoc}
use Rattle.std.specs.Prelude.{◌==◌, flat_map}
use Rattle.std.specs.List.{join_by}
use Rattle.std.proofs.lemmas.Bool.Decides.{nat_tests}
use Rattle.std.proofs.lemmas.Grind.{flat_map-append}
use Rattle.std.proofs.lemmas.List.{take_more}

join-last : {X : Type 0} (f : X → List ℕ) (sep : List ℕ) (y : X) (ys : List X) (x : X) → join_by f sep (y ∷ (ys ++ x ∷ [])) ≡ join_by f sep (y ∷ ys) ++ (sep ++ f x)
join-last f sep y ys x =
    ap (λ r. f y ++ r) (flat_map-append (λ z. sep ++ f z) ys (x ∷ []) ∙ ap (λ r. flat_map (λ z. sep ++ f z) ys ++ r) (append-nil (sep ++ f x)))
    ∙ sym (append_assoc (f y) (flat_map (λ z. sep ++ f z) ys) (sep ++ f x))

joined-more : {X : Type 0} (f : X → List ℕ) (sep : List ℕ) (xs : List X) (i : ℕ) (d : X) → i < length xs
    → join_by f sep (take i xs ++ get_or xs i d ∷ []) ≡ join_by f sep (take i xs) ++ (cond (i == 0) [] sep ++ f (get_or xs i d))
joined-more f sep [] i d h = absurd (omega arith)
joined-more f sep (y ∷ ys) zero d h = append-nil (f y)
joined-more f sep (y ∷ ys) (suc i) d h =
    let later : (suc i == 0) ≡ false = grind (arith, nat_tests) in
    join-last f sep y (take i ys) (get_or ys i d) ∙ ap (λ b. join_by f sep (y ∷ take i ys) ++ (cond b [] sep ++ f (get_or ys i d))) (sym later)

pub joined_more : {X : Type 0} (f : X → List ℕ) (sep : List ℕ) (xs : List X) (i : ℕ) (d : X) → i < length xs
    → join_by f sep (take (i + 1) xs) ≡ join_by f sep (take i xs) ++ (cond (i == 0) [] sep ++ f (get_or xs i d))
joined_more f sep xs i d h = ap (join_by f sep) (take_more xs i d h) ∙ joined-more f sep xs i d h
