-- Loops that leave out what is lost.
use Rattle.std.proofs.Common.{◌≡◌, ℕ, suc, ◌+◌, ◌<◌, List, [], ◌∷◌, ◌++◌, length, refl, ap, ◌∙◌, take, get_or, arith, length-take, add-one}
use Rattle.std.specs.Prelude.{Bool, true, false, cond, not, if◌then◌else◌}
use Rattle.std.proofs.lemmas.List.{take_more}
use Rattle.std.specs.List.{range_with_len}
use Rattle.sl_model.specs.declared.message.Message.{Message}
use Rattle.sl_model.specs.Words.{tally}
use Rattle.sl_model.specs.History.{without_lost}

without-snoc : (lost : ℕ → Bool) (n : ℕ) (xs : List Message) (x : Message) → without_lost lost n (xs ++ x ∷ []) ≡ without_lost lost n xs ++ cond (lost (suc n + length xs)) [] (x ∷ [])
without-snoc lost n [] x = let e : suc n ≡ suc n + 0 = omega arith in one (lost (suc n)) ∙ ap (λ k. cond (lost k) [] (x ∷ [])) e
  where
    one : (b : Bool) → (if b then [] else x ∷ []) ≡ cond b [] (x ∷ [])
    one true = refl
    one false = refl
without-snoc lost n (y ∷ ys) x = let e : suc (suc n) + length ys ≡ suc n + suc (length ys) = omega arith in
    by_bool (lost (suc n)) (without-snoc lost (suc n) ys x ∙ ap (λ k. without_lost lost (suc n) ys ++ cond (lost k) [] (x ∷ [])) e)
  where
    by_bool : (b : Bool) → without_lost lost (suc n) (ys ++ x ∷ []) ≡ without_lost lost (suc n) ys ++ cond (lost (suc n + suc (length ys))) [] (x ∷ [])
        → (if b then without_lost lost (suc n) (ys ++ x ∷ []) else y ∷ without_lost lost (suc n) (ys ++ x ∷ []))
        ≡ (if b then without_lost lost (suc n) ys else y ∷ without_lost lost (suc n) ys) ++ cond (lost (suc n + suc (length ys))) [] (x ∷ [])
    by_bool true q = q
    by_bool false q = ap (λ r. y ∷ r) q

pub without_more : (lost : ℕ → Bool) (xs : List Message) (i : ℕ) (d : Message) → i < length xs
    → without_lost lost 0 (take (i + 1) xs) ≡ without_lost lost 0 (take i xs) ++ cond (lost (i + 1)) [] (get_or xs i d ∷ [])
without_more lost xs i d h = let few : 1 + length (take i xs) ≡ i + 1 = omega (arith, length-take i xs, h) in
    ap (without_lost lost 0) (take_more xs i d h) ∙ without-snoc lost 0 (take i xs) (get_or xs i d) ∙ ap (λ k. without_lost lost 0 (take i xs) ++ cond (lost k) [] (get_or xs i d ∷ [])) few

pub cond_not : (lost : Bool) (x : Message) → cond (not lost) (x ∷ []) [] ≡ cond lost [] (x ∷ [])
cond_not true x = refl
cond_not false x = refl

-- what is kept and what is lost is all
pub lost_and_kept : (lost : ℕ → Bool) (n : ℕ) (xs : List Message) → length (without_lost lost n xs) + tally lost (range_with_len (suc n) (length xs)) ≡ length xs
lost_and_kept lost n [] = refl
lost_and_kept lost n (x ∷ xs) =
    by_bool (lost (suc n)) (ap (λ k. length (without_lost lost (suc n) xs) + tally lost (range_with_len k (length xs))) (add-one (suc n)) ∙ lost_and_kept lost (suc n) xs)
  where
    by_bool : (b : Bool) → length (without_lost lost (suc n) xs) + tally lost (range_with_len (suc n + 1) (length xs)) ≡ length xs
        → length (if b then without_lost lost (suc n) xs else x ∷ without_lost lost (suc n) xs) + ((if b then 1 else 0) + tally lost (range_with_len (suc n + 1) (length xs))) ≡ suc (length xs)
    by_bool true q = omega (arith, q)
    by_bool false q = omega (arith, q)
