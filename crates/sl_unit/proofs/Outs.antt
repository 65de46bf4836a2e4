-- The numbers of the outgoing links of a way.
use Rattle.std.proofs.Common.{◌≡◌, ℕ, zero, suc, ◌+◌, ◌-◌, ◌<◌, List, [], ◌∷◌, ◌++◌, length, refl, sym, ap, subst, ◌∙◌, arith, append_assoc, length-append}
use Rattle.std.specs.Prelude.{cond, true, false, Bool, filter}
use Rattle.std.proofs.lemmas.List.{length-map}
use Rattle.std.specs.List.{range_with_len}
use Rattle.sl_parts.specs.Parts.{below}
use Rattle.sl_parts.proofs.Lists.{filter_below_more}
use Rattle.sl_wire.specs.declared.message.Msg.{Msg}
use Rattle.sl_machine.specs.Machine.{send_all}

grows : (p : ℕ → Bool) (s i k : ℕ) → p (s + i) ≡ true → length (filter p (range_with_len s i)) < length (filter p (range_with_len s (i + suc k)))
grows p s zero k t = let e : s + 0 ≡ s = omega arith in let z : 0 + suc k ≡ suc k = omega arith in
    subst (λ n. 0 < length (filter p (range_with_len s n))) (sym z) (by_bool (p s) (subst (λ n. p n ≡ true) e t))
  where
    by_bool : (b : Bool) → b ≡ true → 0 < length (cond b (s ∷ filter p (range_with_len (s + 1) k)) (filter p (range_with_len (s + 1) k)))
    by_bool true h = omega arith
    by_bool false h = cc
grows p s (suc i) k t = let z : suc i + suc k ≡ suc (i + suc k) = omega arith in
    subst (λ n. length (filter p (range_with_len s (suc i))) < length (filter p (range_with_len s n))) (sym z)
    (by_bool (p s) (grows p (s + 1) i k (subst (λ n. p n ≡ true) (let e : s + suc i ≡ s + 1 + i = omega arith in e) t)))
  where
    by_bool : (b : Bool) → length (filter p (range_with_len (s + 1) i)) < length (filter p (range_with_len (s + 1) (i + suc k)))
        → length (cond b (s ∷ filter p (range_with_len (s + 1) i)) (filter p (range_with_len (s + 1) i))) < length (cond b (s ∷ filter p (range_with_len (s + 1) (i + suc k))) (filter p (range_with_len (s + 1) (i + suc k))))
    by_bool true h = omega arith
    by_bool false h = h

-- a number that passes is one more
pub outs_rise : (p : ℕ → Bool) (i n : ℕ) → i < n → p i ≡ true → length (filter p (below i)) < length (filter p (below n))
outs_rise p i n h t = let e : i + suc (n - suc i) ≡ n = omega arith in let z : i ≡ 0 + i = omega arith in
    subst (λ m. length (filter p (below i)) < length (filter p (below m))) e (grows p 0 i (n - suc i) (subst (λ n. p n ≡ true) z t))

-- one number more
pub sent_more : (m : Msg) (p : ℕ → Bool) (before : List (ℕ × Msg)) (i : ℕ) → (before ++ send_all m (filter p (below i))) ++ cond (p i) ((i, m) ∷ []) [] ≡ before ++ send_all m (filter p (below (i + 1)))
sent_more m p before i = append_assoc before (send_all m (filter p (below i))) (cond (p i) ((i, m) ∷ []) [])
    ∙ ap (λ ps. before ++ ps) (by_bool (p i) ∙ ap (send_all m) (sym (filter_below_more p i)))
  where
    joined : (xs ys : List ℕ) → send_all m xs ++ send_all m ys ≡ send_all m (xs ++ ys)
    joined [] ys = refl
    joined (x ∷ xs) ys = ap (λ ps. (x, m) ∷ ps) (joined xs ys)

    by_bool : (b : Bool) → send_all m (filter p (below i)) ++ cond b ((i, m) ∷ []) [] ≡ send_all m (filter p (below i) ++ cond b (i ∷ []) [])
    by_bool true = joined (filter p (below i)) (i ∷ [])
    by_bool false = joined (filter p (below i)) []

pub length_sent : (m : Msg) (xs : List ℕ) → length (send_all m xs) ≡ length xs
length_sent m xs = simp length-map

-- how many there are with one number more
pub many_more : (p : ℕ → Bool) (i : ℕ) → length (filter p (below (i + 1))) ≡ length (filter p (below i)) + cond (p i) 1 0
many_more p i = ap length (filter_below_more p i) ∙ length-append (filter p (below i)) (cond (p i) (i ∷ []) []) ∙ by_bool (p i)
  where
    by_bool : (b : Bool) → length (filter p (below i)) + length (cond b (i ∷ []) []) ≡ length (filter p (below i)) + cond b 1 0
    by_bool true = refl
    by_bool false = refl
