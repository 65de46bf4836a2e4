-- What a dump tells, one data channel after the other.
use Rattle.std.proofs.Common.{◌≡◌, ℕ, zero, suc, ◌+◌, ◌<◌, ◌≤◌, List, [], ◌∷◌, length, get_or, take, refl, sym, ap, ◌∙◌, ◌⊎◌, inl, inr, arith}
use Rattle.std.specs.Prelude.{Bool, min, if◌then◌else◌, slice_index_or, slice_set}
use Rattle.std.specs.List.{fold}
use Rattle.std.proofs.lemmas.Bool.{lt-ltb, cases_lt}
use Rattle.std.proofs.lemmas.List.{take_min}
use Rattle.sl_ids.specs.declared.wid.Wid.{Wid}
use Rattle.sl_ids.specs.Ids.{unwrapped}
use Rattle.sl_wire.specs.Reach.{reached}
use Rattle.sl_wire.specs.Wids.{no_wid, unwrapped_each}
use Rattle.sl_control.specs.Rows.{seen_on}

pub length-each : (bits : ℕ) (ns : List ℕ) (ws : List Wid) → length ns ≡ length ws → length (unwrapped_each bits ns ws) ≡ length ns
length-each bits [] ws e = refl
length-each bits (n ∷ ns) [] e = absurd (omega (arith, e))
length-each bits (n ∷ ns) (w ∷ ws) e = ap suc (length-each bits ns ws (omega (arith, e)))

pub each-at : (bits : ℕ) (ns : List ℕ) (ws : List Wid) (c : ℕ) → c < length ns → c < length ws
    → get_or (unwrapped_each bits ns ws) c 0 ≡ unwrapped bits (get_or ns c 0) (get_or ws c no_wid).raw
each-at bits [] ws c h k = absurd (omega (arith, h))
each-at bits (n ∷ ns) [] c h k = absurd (omega (arith, k))
each-at bits (n ∷ ns) (w ∷ ws) zero h k = refl
each-at bits (n ∷ ns) (w ∷ ws) (suc c) h k = each-at bits ns ws c (omega (arith, h)) (omega (arith, k))

-- the last-seen id of one more channel
pub seen-more : (c : ℕ) (xs : List ℕ) → c < 8 → slice_set (seen_on c xs) c (get_or xs c 0) ≡ seen_on (c + 1) xs
seen-more zero xs h = refl
seen-more (suc zero) xs h = refl
seen-more (suc (suc zero)) xs h = refl
seen-more (suc (suc (suc zero))) xs h = refl
seen-more (suc (suc (suc (suc zero)))) xs h = refl
seen-more (suc (suc (suc (suc (suc zero))))) xs h = refl
seen-more (suc (suc (suc (suc (suc (suc zero)))))) xs h = refl
seen-more (suc (suc (suc (suc (suc (suc (suc zero))))))) xs h = refl
seen-more (suc (suc (suc (suc (suc (suc (suc (suc c)))))))) xs h = absurd (omega (arith, h))

-- no channel is past the eighth
seen-all : (n : ℕ) (xs : List ℕ) → 8 ≤ n → seen_on 8 xs ≡ seen_on n xs
seen-all n xs h = sym (λ i. seen 0 (lt-ltb 0 n (omega arith) i) ∷ seen 1 (lt-ltb 1 n (omega arith) i) ∷ seen 2 (lt-ltb 2 n (omega arith) i)
    ∷ seen 3 (lt-ltb 3 n (omega arith) i) ∷ seen 4 (lt-ltb 4 n (omega arith) i) ∷ seen 5 (lt-ltb 5 n (omega arith) i)
    ∷ seen 6 (lt-ltb 6 n (omega arith) i) ∷ seen 7 (lt-ltb 7 n (omega arith) i) ∷ [])
  where
    seen : ℕ → Bool → ℕ
    seen c b = if b then slice_index_or xs c 0 else 0

pub seen-few : (n : ℕ) (xs : List ℕ) → seen_on (min n 8) xs ≡ seen_on n xs
seen-few n xs = by_cases (cases_lt n 8)
  where
    by_cases : (n < 8) ⊎ (8 ≤ n) → seen_on (min n 8) xs ≡ seen_on n xs
    by_cases (inl h) = let e : min n 8 ≡ n = omega arith in ap (λ k. seen_on k xs) e
    by_cases (inr h) = let e : min n 8 ≡ 8 = omega arith in ap (λ k. seen_on k xs) e ∙ seen-all n xs h

pub reached-few : (n id : ℕ) (xs : List ℕ) → length xs ≡ 8 → reached (min n 8) id xs ≡ reached n id xs
reached-few n id xs e = ap (λ k. fold min id (take (min n k) xs)) (sym e) ∙ ap (fold min id) (take_min n xs)
