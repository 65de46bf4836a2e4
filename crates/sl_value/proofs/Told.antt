-- The values of what was told of units: what a step changes of them, and what more of a history adds.
use Rattle.std.proofs.Common.{◌≡◌, ℕ, zero, suc, ◌+◌, ◌-◌, ◌<◌, ◌≤◌, [], ◌∷◌, ◌++◌, length, map, refl, sym, ap, subst, ◌∙◌, Option, Some, None, arith, inl, inr, append-nil}
use Rattle.std.specs.Prelude.{Bool, true, false, ◌==◌, nat_eq, ◌⊎◌, if◌then◌else◌, unwrap_or, option_and_then}
use Rattle.std.proofs.lemmas.Bool.{lt-ltb, le-ltb, cases_lt}
use Rattle.std.proofs.lemmas.Bool.Decides.{eqb_tells}
use Rattle.std.proofs.lemmas.List.{map-append}
use Rattle.std.specs.List.{range_with_len}
use Rattle.sl_layout.specs.Net.{Net, data_channels}
use Rattle.sl_control.specs.Rows.{span}
use Rattle.sl_model.specs.declared.message.Message.{Message}
use Rattle.sl_model.specs.declared.message.Step.{Step}
use Rattle.sl_model.specs.History.{History, id, last, heard, first}
use Rattle.sl_model.specs.Counting.{packets, bytes}
use Rattle.sl_model.specs.Knowledge.{upto_of}
use Rattle.sl_value.specs.declared.whole.Whole.{Whole}
use Rattle.sl_value.specs.Counted.{counted}
use Rattle.sl_value.specs.Standing.{values_told}
use Rattle.sl_value.proofs.Counting.{before-step}
use Rattle.sl_value.proofs.Reports.{least-below}

-- What is heard by a choice.

abbrev Tested : ℕ → ℕ → Type 0
Tested a b = ((nat_eq a b ≡ true) × (a ≡ b)) ⊎ ((nat_eq a b ≡ false) × (a ≡ b → ⊥))

-- a step that tells nothing changes nothing
pub heard-nothing : (f : Message → Option ℕ) (c : ℕ) (s : Step) (h : History) → option_and_then f s.taken ≡ None → heard f c (s ∷ h) ≡ heard f c h
heard-nothing f c s h e = by_bool (s.choice == c)
  where
    by_bool : (b : Bool) → (if b then unwrap_or (option_and_then f s.taken) (heard f c h) else heard f c h) ≡ heard f c h
    by_bool true = ap (λ o. unwrap_or o (heard f c h)) e
    by_bool false = refl

-- nor does a step by another choice
pub heard-other : (f : Message → Option ℕ) (c : ℕ) (s : Step) (h : History) → (s.choice ≡ c → ⊥) → heard f c (s ∷ h) ≡ heard f c h
heard-other f c s h ne = by_tells (eqb_tells s.choice c)
  where
    by_tells : Tested s.choice c → (if s.choice == c then unwrap_or (option_and_then f s.taken) (heard f c h) else heard f c h) ≡ heard f c h
    by_tells (inl q) = absurd (ne q.1)
    by_tells (inr q) = ap (λ b. if b then unwrap_or (option_and_then f s.taken) (heard f c h) else heard f c h) q.0

pub heard-here : (f : Message → Option ℕ) (c n : ℕ) (s : Step) (h : History) → s.choice ≡ c → option_and_then f s.taken ≡ Some n → heard f c (s ∷ h) ≡ n
heard-here f c n s h q e = by_tells (eqb_tells s.choice c)
  where
    by_tells : Tested s.choice c → (if s.choice == c then unwrap_or (option_and_then f s.taken) (heard f c h) else heard f c h) ≡ n
    by_tells (inl t) = ap (λ b. if b then unwrap_or (option_and_then f s.taken) (heard f c h) else heard f c h) t.0 ∙ ap (λ o. unwrap_or o (heard f c h)) e
    by_tells (inr t) = absurd (t.1 q)

-- More of a history.

pub upto-id : (net : Net) (u : ℕ) (g : History) → upto_of net u g ≤ id g
upto-id net u g = least-below (id g) (map (λ c. last c g) (data_channels net u))

-- what was counted before a number that the id has reached stays
pub counted-step : (k : ℕ) (s : Step) (h : History) → k ≤ id h → counted k (s ∷ h) ≡ counted k h
counted-step k s h q = ap (λ g. record { packets = packets g; bytes = bytes g }) (before-step k s h (omega (arith, q)))

id-first : (n : ℕ) (h : History) → id (first n h) ≤ id h
id-first n [] = omega arith
id-first n (s ∷ h) = by_cases (cases_lt (length h) n) (id-first n h)
  where
    by_cases : (length h < n) ⊎ (n ≤ length h) → id (first n h) ≤ id h → id (first n (s ∷ h)) ≤ id (s ∷ h)
    by_cases (inl q) ih = rw (lt-ltb (length h) n q) (omega arith)
    by_cases (inr q) ih = rw (le-ltb (length h) n q) (omega (arith, ih))

-- the first m steps, of which the id has reached k, and of the whole
pub counted-first : (k n : ℕ) (h : History) → k ≤ id (first n h) → counted k (first n h) ≡ counted k h
counted-first k n [] q = refl
counted-first k n (s ∷ h) q = by_cases (cases_lt (length h) n) (counted-first k n h)
  where
    by_cases : (length h < n) ⊎ (n ≤ length h) → (k ≤ id (first n h) → counted k (first n h) ≡ counted k h) → counted k (first n (s ∷ h)) ≡ counted k (s ∷ h)
    by_cases (inl l) ih = ap (counted k) (ap (λ b. if b then s ∷ h else first n h) (lt-ltb (length h) n l))
    by_cases (inr l) ih = let e : first n (s ∷ h) ≡ first n h = ap (λ b. if b then s ∷ h else first n h) (le-ltb (length h) n l) in
        let r : k ≤ id (first n h) = subst (λ g. k ≤ id g) e q in
        ap (counted k) e ∙ ih r ∙ sym (counted-step k s h (omega (arith, r, id-first n h)))

-- Lists of numbers.

pub numbers-split : (n a b : ℕ) → range_with_len n (a + b) ≡ range_with_len n a ++ range_with_len (n + a) b
numbers-split n zero b = let e : zero + b ≡ b = omega arith in let f : n ≡ n + zero = omega arith in ap (range_with_len n) e ∙ ap (λ m. range_with_len m b) f
numbers-split n (suc a) b = let e : suc a + b ≡ suc (a + b) = omega arith in let f : n + 1 + a ≡ n + suc a = omega arith in
    ap (range_with_len n) e ∙ ap (λ xs. n ∷ xs) (numbers-split (n + 1) a b ∙ ap (λ m. range_with_len (n + 1) a ++ range_with_len m b) f)

pub numbers-span : (a b : ℕ) → a ≤ b → range_with_len 1 b ≡ range_with_len 1 a ++ span a b
numbers-span a b h = let e : b ≡ a + (b - a) = omega (arith, h) in let f : 1 + a ≡ suc a = omega arith in
    ap (range_with_len 1) e ∙ numbers-split 1 a (b - a) ∙ ap (λ m. range_with_len 1 a ++ range_with_len m (b - a)) f

-- two functions on the numbers of a list, each of which is at most b
map-below : (f g : ℕ → Whole) (b n count : ℕ) → n + count ≤ suc b → ((k : ℕ) → k ≤ b → f k ≡ g k) → map f (range_with_len n count) ≡ map g (range_with_len n count)
map-below f g b n zero h e = refl
map-below f g b n (suc count) h e = let x = e n (omega (arith, h)) in let y = map-below f g b (n + 1) count (omega (arith, h)) e in λ i. x i ∷ y i

-- what m steps told is told by n steps, and the values of the numbers between
pub values-grow : (net : Net) (u m n : ℕ) (h : History) → ((k : ℕ) → k ≤ id (first m h) → k ≤ id (first n h)) → upto_of net u (first m h) ≤ upto_of net u (first n h)
    → values_told net u (first n h) ≡ values_told net u (first m h) ++ map (λ k. counted k (first n h)) (span (upto_of net u (first m h)) (upto_of net u (first n h)))
values-grow net u m n h ids up =
    ap (map (λ k. counted k (first n h))) (numbers-span (upto_of net u (first m h)) (upto_of net u (first n h)) up)
    ∙ map-append (λ k. counted k (first n h)) (range_with_len 1 (upto_of net u (first m h))) (span (upto_of net u (first m h)) (upto_of net u (first n h)))
    ∙ ap (λ vs. vs ++ map (λ k. counted k (first n h)) (span (upto_of net u (first m h)) (upto_of net u (first n h))))
    (map-below (λ k. counted k (first n h)) (λ k. counted k (first m h)) (upto_of net u (first m h)) 1 (upto_of net u (first m h)) (omega arith)
    (λ k q. let low : k ≤ id (first m h) = omega (arith, q, upto-id net u (first m h)) in counted-first k n h (ids k low) ∙ sym (counted-first k m h low)))

pub values-same : (net : Net) (u m n : ℕ) (h : History) → ((k : ℕ) → k ≤ id (first m h) → k ≤ id (first n h)) → upto_of net u (first m h) ≡ upto_of net u (first n h)
    → values_told net u (first m h) ≡ values_told net u (first n h)
values-same net u m n h ids up =
    let none : span (upto_of net u (first m h)) (upto_of net u (first n h)) ≡ [] = let z : upto_of net u (first n h) - upto_of net u (first m h) ≡ 0 = omega (arith, up) in ap (range_with_len (suc (upto_of net u (first m h)))) z in
    sym (values-grow net u m n h ids (omega (arith, up)) ∙ ap (λ ks. values_told net u (first m h) ++ map (λ k. counted k (first n h)) ks) none ∙ append-nil (values_told net u (first m h)))
