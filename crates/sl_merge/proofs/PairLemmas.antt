-- Lists of which each element is so to each later one.
use Rattle.std.proofs.Common.{ℕ, zero, suc, ◌<◌, List, [], ◌∷◌, ◌++◌, length, get_or, arith}
use Rattle.std.specs.Prelude.{⊤}
use Rattle.std.specs.List.{AllByRecursion}
use Rattle.std.proofs.lemmas.List.Elements.{All-from_recursion, recursion_from_All}

pub each-append : {X : Type 0} (P : X → Type 0) (xs ys : List X) → AllByRecursion P xs → AllByRecursion P ys → AllByRecursion P (xs ++ ys)
each-append P [] ys h k = k
each-append P (x ∷ xs) ys h k = (h.0, each-append P xs ys h.1 k)

module _ {X : Type 0} (R : X → X → Type 0) where
  abbrev pub Pairs : List X → Type 0
  Pairs [] = ⊤
  Pairs (x ∷ xs) = AllByRecursion (R x) xs × Pairs xs

  pub pairs-append : (xs ys : List X) → Pairs xs → Pairs ys → AllByRecursion (λ x. AllByRecursion (R x) ys) xs → Pairs (xs ++ ys)
  pairs-append [] ys h k cross = k
  pairs-append (x ∷ xs) ys h k cross = (each-append (R x) xs ys h.0 cross.0, pairs-append xs ys h.1 k cross.1)

  pub by_place : (xs : List X) (i j : ℕ) (d : X) → Pairs xs → i < j → j < length xs → R (get_or xs i d) (get_or xs j d)
  by_place [] i j d h lt low = absurd (omega arith)
  by_place (x ∷ xs) i zero d h lt low = absurd (omega arith)
  by_place (x ∷ xs) zero (suc j) d h lt low = All-from_recursion (R x) xs h.0 j d (omega arith)
  by_place (x ∷ xs) (suc i) (suc j) d h lt low = by_place xs i j d h.1 (omega arith) (omega arith)

  pub from_places : (xs : List X) → ((i j : ℕ) (d : X) → i < j → j < length xs → R (get_or xs i d) (get_or xs j d)) → Pairs xs
  from_places [] h = tt
  from_places (x ∷ xs) h =
      (recursion_from_All (R x) xs (λ j d low. h zero (suc j) d (omega arith) (omega arith)), from_places xs (λ i j d lt low. h (suc i) (suc j) d (omega arith) (omega arith)))
