-- Elements of lists by their place.
use Rattle.std.proofs.Common.{◌≡◌, ℕ, zero, suc, ◌<◌, List, [], ◌∷◌, length, set, slice_get, Some, refl, ap₂, arith, inl, inr}
use Rattle.std.proofs.lemmas.Option.{same_Some, slice_get_cases}

module _ {X : Type 0} where
  pub some_at : (xs : List X) (k : ℕ) → k < length xs → (x : X) × (slice_get xs k ≡ Some x)
  some_at xs k low =
      elim (slice_get_cases xs k).1 [
        | inl t ↦ (t.0, t.2)
        | inr t ↦ absurd (omega (arith, low, t.0))
      ]

  pub slice_get-set_same : (xs : List X) (k : ℕ) (y : X) → k < length xs → slice_get (set xs k y) k ≡ Some y
  slice_get-set_same [] k y h = absurd (omega arith)
  slice_get-set_same (x ∷ xs) zero y h = refl
  slice_get-set_same (x ∷ xs) (suc k) y h = slice_get-set_same xs k y (omega arith)

  pub slice_get-set_other : (xs : List X) (k j : ℕ) (y : X) → (k ≡ j → ⊥) → slice_get (set xs k y) j ≡ slice_get xs j
  slice_get-set_other [] k j y h = refl
  slice_get-set_other (x ∷ xs) zero zero y h = absurd (h refl)
  slice_get-set_other (x ∷ xs) zero (suc j) y h = refl
  slice_get-set_other (x ∷ xs) (suc k) zero y h = refl
  slice_get-set_other (x ∷ xs) (suc k) (suc j) y h = slice_get-set_other xs k j y (λ e. h (omega arith))

  -- lists of one length with the same elements
  pub same_gets : (xs ys : List X) → length xs ≡ length ys → ((k : ℕ) (y : X) → slice_get ys k ≡ Some y → slice_get xs k ≡ Some y) → xs ≡ ys
  same_gets [] [] len h = refl
  same_gets [] (y ∷ ys) len h = absurd (omega arith)
  same_gets (x ∷ xs) [] len h = absurd (omega arith)
  same_gets (x ∷ xs) (y ∷ ys) len h = ap₂ (λ z zs. z ∷ zs) (same_Some x y (h 0 y refl)) (same_gets xs ys (omega arith) (λ k z e. h (suc k) z e))
