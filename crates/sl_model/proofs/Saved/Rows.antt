-- What the saved entries answer is what the history says.
use Rattle.std.proofs.Common.{◌≡◌, ℕ, zero, suc, ◌-◌, ◌<◌, ◌≤◌, List, [], ◌∷◌, ◌++◌, refl, sym, ap, subst, ◌∙◌, Option, Some, None, arith, inl, inr}
use Rattle.std.specs.Prelude.{true, false, Bool, cond, nat_lt, nat_eq, ◌==◌, ◌&&◌, ◌||◌, take, slice_index_or, option_map, ◌⊎◌, if◌then◌else◌}
use Rattle.std.specs.List.{list_any}
use Rattle.std.proofs.lemmas.Bool.{lt-ltb, le-ltb, ltb-true, eq-eqb, ne_eqb, cases_lt, cases_order, cases_Bool, and_parts, or_left, or_right, ltb-false, and_left}
use Rattle.std.proofs.lemmas.Bool.Decides.{nat_tests, eqb_tells}
use Rattle.sl_saves.specs.Calls.{saves, saved, judged, is_above, is_miscredit, greatest, totals}
use Rattle.sl_model.specs.declared.message.Message.{Message}
use Rattle.sl_model.specs.declared.message.Message.TheVariants.{Data}
use Rattle.sl_model.specs.declared.message.Step.{Step}
use Rattle.sl_parts.specs.Lists.{Each, Member}
use Rattle.sl_parts.proofs.Lists.{each-imp, each-at}
use Rattle.sl_route.specs.Least.{least}
use Rattle.sl_model.specs.Words.{listed}
use Rattle.sl_model.specs.History.{History, id}
use Rattle.sl_model.specs.Verdict.{is_old_data, skipped_to, adopted, nth_adopted, miscredits, first_cause}
use Rattle.sl_model.proofs.Cuts.Prefixes.{id-le, before-same}
use Rattle.sl_model.specs.Calls.{calls}
use Rattle.sl_model.specs.Rows.{is_among, or_else, lowest, foot, feet_in, feet_at, told, row, entry, reach_at}
use Rattle.sl_model.proofs.Saved.Entries.{adopted-le, adopted-more, adopted-same, adopted-none, adopted-falls, IsHeaded, headed, feet-none, entries-are, entries-chain, credits-same, credit-clear}
use Rattle.sl_model.proofs.Lists.Lowest.{lowest-none, lowest-above, among-none, find-map, least-map, Falls, falls-take, right-of, among-each, IsUpTo, lowest-most, least-is, least-of}
use Rattle.sl_saves.specs.declared.entry.Saved.TheVariants.{Value, Miscredited}
use Rattle.sl_saves.proofs.Chains.{any-greatest}
use Rattle.sl_model.specs.Counting.{packets, bytes}

-- Skips.

no-skip : (a b k : ℕ) → b ≤ a → (nat_lt a k && nat_lt k b) ≡ false
no-skip a b k h = grind (arith, nat_tests)

-- a number at most the id that was not adopted lies below one that was
record HasAbove (k : ℕ) (xs : List ℕ) : Type 0 where
  pub above : ℕ
  pub is : lowest (nat_lt k) xs ≡ Some above

above-some : (k : ℕ) (h : History) → 1 ≤ k → k ≤ id h → is_among k (adopted h) ≡ false → HasAbove k (adopted h)
above-some k h one p q = by_order (cases_lt k (id h))
  where
    top : IsHeaded h
    top = headed h (omega (arith, one, p))

    by_order : ((k < id h) ⊎ (id h ≤ k)) → HasAbove k (adopted h)
    by_order (inl r) = let o = lowest-above k (id h) top.rest r in record { above = o.0; is = ap (lowest (nat_lt k)) top.is ∙ o.1 }
    by_order (inr r) = let f : is_among k (id h ∷ top.rest) ≡ false = ap (is_among k) (sym top.is) ∙ q in
        let t : is_among k (id h ∷ top.rest) ≡ true = ap (λ b. b || is_among k top.rest) (eq-eqb (id h) k (omega (arith, r, p))) in absurd (cc)

-- what was skipped is what was not adopted
abbrev Skips : ℕ → Option ℕ → List ℕ → Type 0
Skips k o xs = o ≡ (if is_among k xs then None else lowest (nat_lt k) xs)

-- the id rises from a to b
skip-more : (k a b : ℕ) (o : Option ℕ) (xs : List ℕ) → a < b → Each (λ j. j ≤ a) xs → (k ≤ a → is_among k xs ≡ false → HasAbove k xs) → Skips k o xs
    → Skips k (if nat_lt a k && nat_lt k b then Some b else o) (b ∷ xs)
skip-more k a b o xs p le some ih = by_place (cases_lt a k)
  where
    by_among : k ≤ a → ((is_among k xs ≡ true) ⊎ (is_among k xs ≡ false)) → o ≡ (if is_among k xs then None else or_else (lowest (nat_lt k) xs) (Some b))
    by_among q (inl r) = let i : o ≡ None = ih ∙ ap (λ b. if b then None else lowest (nat_lt k) xs) r in rw r i
    by_among q (inr r) = let s = some q r in let i : o ≡ Some s.above = ih ∙ ap (λ b. if b then None else lowest (nat_lt k) xs) r ∙ s.is in rw (r, s.is) i

    by_order : a < k → is_among k xs ≡ false → lowest (nat_lt k) xs ≡ None → o ≡ None → ((b ≡ k) ⊎ ((b < k) ⊎ (k < b)))
        → Skips k (if nat_lt a k && nat_lt k b then Some b else o) (b ∷ xs)
    by_order q f l n (inl r) = rw (lt-ltb a k q, le-ltb k b (omega (arith, r)), eq-eqb b k r) n
    by_order q f l n (inr (inl r)) = rw (lt-ltb a k q, le-ltb k b (omega (arith, r)), ne_eqb b k (λ e. omega (arith, e, r)), f, l) n
    by_order q f l n (inr (inr r)) = rw (lt-ltb a k q, lt-ltb k b r, ne_eqb b k (λ e. omega (arith, e, r)), f, l) refl

    by_place : ((a < k) ⊎ (k ≤ a)) → Skips k (if nat_lt a k && nat_lt k b then Some b else o) (b ∷ xs)
    by_place (inr q) = rw (le-ltb a k q, ne_eqb b k (λ e. omega (arith, e, q, p)), lt-ltb k b (omega (arith, q, p))) (by_among q (cases_Bool (is_among k xs)))
    by_place (inl q) = let f : is_among k xs ≡ false = among-none k xs (each-imp (λ j. j ≤ a) (λ j. j < k) xs (λ j r. omega (arith, r, q)) le) in
        let l : lowest (nat_lt k) xs ≡ None = lowest-none (nat_lt k) xs (each-imp (λ j. j ≤ a) (λ j. nat_lt k j ≡ false) xs (λ j r. le-ltb k j (omega (arith, r, q))) le) in
        by_order q f l (ih ∙ ap (λ b. if b then None else lowest (nat_lt k) xs) f ∙ l) (cases_order b k)

pub skips : (k : ℕ) (h : History) → 1 ≤ k → Skips k (skipped_to k h) (adopted h)
skips k [] one = refl
skips k (s ∷ h) one = by_cases (cases_lt (id h) (id (s ∷ h))) (skips k h one)
  where
    by_cases : ((id h < id (s ∷ h)) ⊎ (id (s ∷ h) ≤ id h)) → Skips k (skipped_to k h) (adopted h) → Skips k (skipped_to k (s ∷ h)) (adopted (s ∷ h))
    by_cases (inl p) ih = subst (Skips k (skipped_to k (s ∷ h))) (sym (adopted-more s h p))
        (skip-more k (id h) (id (s ∷ h)) (skipped_to k h) (adopted h) p (adopted-le h) (above-some k h one) ih)
    by_cases (inr p) ih = subst (Skips k (skipped_to k (s ∷ h))) (sym (adopted-same s h p))
        (ap (λ b. if b then Some (id (s ∷ h)) else skipped_to k h) (no-skip (id h) (id (s ∷ h)) k p) ∙ ih)

-- what was not skipped was adopted
pub adopted-at : (k : ℕ) (h : History) → 1 ≤ k → k ≤ id h → skipped_to k h ≡ None → is_among k (adopted h) ≡ true
adopted-at k h one p q = by_among (cases_Bool (is_among k (adopted h)))
  where
    by_among : ((is_among k (adopted h) ≡ true) ⊎ (is_among k (adopted h) ≡ false)) → is_among k (adopted h) ≡ true
    by_among (inl a) = a
    by_among (inr a) = let b = above-some k h one p a in
        absurd (let z : Some b.above ≡ None = sym (skips k h one ∙ ap (λ b. if b then None else lowest (nat_lt k) (adopted h)) a ∙ b.is) ∙ q in cc)

-- Miscredits.

-- some ages that lie above a number
abbrev olds : ℕ → List ℕ → Bool
olds d xs = list_any (λ a. nat_lt d a) xs

-- the entry of j is a miscredit of k
abbrev pub bad : ℕ → ℕ → History → ℕ → Bool
bad n k h j = nat_lt k j && olds (j - k) (feet_at n j h)

pub miscredits-none : (n k : ℕ) (s : Step) (h : History) → (is_old_data k s.taken && nat_lt k (nth_adopted n (s ∷ h))) ≡ false → miscredits n k (s ∷ h) ≡ miscredits n k h
miscredits-none n k s h q = ap (λ b. cond b (nth_adopted n (s ∷ h) ∷ miscredits n k h) (miscredits n k h)) q

olds-append : (d : ℕ) (xs ys : List ℕ) → olds d (xs ++ ys) ≡ (olds d xs || olds d ys)
olds-append d [] ys = refl
olds-append d (x ∷ xs) ys = ap (λ b. nat_lt d x || b) (olds-append d xs ys) ∙ by_bool (nat_lt d x) (olds d xs) (olds d ys)
  where
    by_bool : (a b c : Bool) → (a || (b || c)) ≡ ((a || b) || c)
    by_bool true b c = refl
    by_bool false b c = refl

-- The n-th of some numbers. It is the foot of what is older than a number below it.

abbrev pub nth : ℕ → List ℕ → ℕ
nth n js = slice_index_or js (n - 1) 0

nth-suc : (m : ℕ) (js : List ℕ) → slice_index_or js m 0 ≡ nth (suc m) js
nth-suc m js = ap (λ i. slice_index_or js i 0) (let e : m ≡ suc m - 1 = omega arith in e)

foot-at : (t k m : ℕ) (js : List ℕ) → t < k → k < slice_index_or js m 0 → foot t (take (suc m) js) ≡ Some (slice_index_or js m 0)
foot-at t k m [] p q = absurd (omega (arith, q))
foot-at t k zero (x ∷ xs) p q = ap (λ b. if b then Some x else None) (lt-ltb t x (omega (arith, p, q)))
foot-at t k (suc m) (x ∷ xs) p q = ap (λ o. or_else o (if nat_lt t x then Some x else None)) (foot-at t k m xs p q)

pub foot-nth : (n t k : ℕ) (js : List ℕ) → 1 ≤ n → t < k → k < nth n js → foot t (take n js) ≡ Some (nth n js)
foot-nth zero t k js one p q = absurd (omega (arith, one))
foot-nth (suc m) t k js one p q = foot-at t k m js p (subst (λ v. k < v) (sym (nth-suc m js)) q) ∙ ap (λ v. Some v) (nth-suc m js)

at-among : (k m : ℕ) (js : List ℕ) → k < slice_index_or js m 0 → is_among (slice_index_or js m 0) js ≡ true
at-among k m [] q = absurd (omega (arith, q))
at-among k zero (x ∷ xs) q = ap (λ b. b || is_among x xs) (eq-eqb x x refl)
at-among k (suc m) (x ∷ xs) q = or_right (x == slice_index_or xs m 0) (is_among (slice_index_or xs m 0) xs) (at-among k m xs q)

-- a number of falling ones that is not below the n-th is among the first n
take-among : (k m : ℕ) (js : List ℕ) → Falls js → is_among k js ≡ true → slice_index_or js m 0 ≤ k → is_among k (take (suc m) js) ≡ true
take-among k m [] f a q = absurd cc
take-among k zero (x ∷ xs) f a q = by_tells (eqb_tells x k)
  where
    by_tells : ((nat_eq x k ≡ true) × (x ≡ k)) ⊎ ((nat_eq x k ≡ false) × (x ≡ k → ⊥)) → ((x == k) || false) ≡ true
    by_tells (inl e) = ap (λ b. b || false) e.0
    by_tells (inr e) = absurd (let l = among-each (λ y. y < x) k xs f.0 (right-of (x == k) (is_among k xs) e.0 a) in omega (arith, l, q))
take-among k (suc m) (x ∷ xs) f a q = by_tells (eqb_tells x k) (λ b. take-among k m xs f.1 b q)
  where
    by_tells : ((nat_eq x k ≡ true) × (x ≡ k)) ⊎ ((nat_eq x k ≡ false) × (x ≡ k → ⊥)) → (is_among k xs ≡ true → is_among k (take (suc m) xs) ≡ true) → ((x == k) || is_among k (take (suc m) xs)) ≡ true
    by_tells (inl e) ih = or_left (x == k) (is_among k (take (suc m) xs)) e.0
    by_tells (inr e) ih = or_right (x == k) (is_among k (take (suc m) xs)) (ih (right-of (x == k) (is_among k xs) e.0 a))

pub nth-take : (n k : ℕ) (js : List ℕ) → 1 ≤ n → Falls js → is_among k js ≡ true → nth n js ≤ k → is_among k (take n js) ≡ true
nth-take zero k js one f a q = absurd (omega (arith, one))
nth-take (suc m) k js one f a q = take-among k m js f a (subst (λ v. v ≤ k) (sym (nth-suc m js)) q)

-- the last number that was adopted is the id
pub first-adopted : (h : History) → nth_adopted 1 h ≡ id h
first-adopted h = by_place (cases_lt (id h) 1)
  where
    by_place : ((id h < 1) ⊎ (1 ≤ id h)) → nth_adopted 1 h ≡ id h
    by_place (inl p) = ap (nth 1) (adopted-none h p) ∙ omega (arith, p)
    by_place (inr p) = ap (nth 1) (headed h p).is

-- Each miscredit is the number of an entry that is one.

among-later : (j : ℕ) (s : Step) (h : History) → is_among j (adopted h) ≡ true → is_among j (adopted (s ∷ h)) ≡ true
among-later j s h a = by_bool (nat_lt (id h) (id (s ∷ h)))
  where
    by_bool : (b : Bool) → is_among j (if b then id (s ∷ h) ∷ adopted h else adopted h) ≡ true
    by_bool true = or_right (id (s ∷ h) == j) (is_among j (adopted h)) a
    by_bool false = a

bad-by : (n k : ℕ) (s : Step) (h : History) (j : ℕ) → k < j → (olds (j - k) (feet_in (take n (adopted (s ∷ h))) j s.taken) || olds (j - k) (feet_at n j h)) ≡ true → bad n k (s ∷ h) j ≡ true
bad-by n k s h j p q = (λ i. lt-ltb k j p i && (olds-append (j - k) (feet_in (take n (adopted (s ∷ h))) j s.taken) (feet_at n j h) ∙ q) i)

bad-later : (n k : ℕ) (s : Step) (h : History) (j : ℕ) → bad n k h j ≡ true → bad n k (s ∷ h) j ≡ true
bad-later n k s h j q = let p = and_parts (nat_lt k j) (olds (j - k) (feet_at n j h)) q in
    bad-by n k s h j (ltb-true k j p.0) (or_right (olds (j - k) (feet_in (take n (adopted (s ∷ h))) j s.taken)) (olds (j - k) (feet_at n j h)) p.1)

-- old data of a number below the n-th has the n-th as its foot
new-old : (n k : ℕ) (js : List ℕ) (o : Option Message) → 1 ≤ n → is_old_data k o ≡ true → k < nth n js → olds (nth n js - k) (feet_in (take n js) (nth n js) o) ≡ true
new-old n k js (Some (Data t p)) one q l = let v = nth n js in let r : t < k = ltb-true t k q in
    ap (λ f. olds (v - k) (if is_among v (listed f) then (v - t) ∷ [] else [])) (foot-nth n t k js one r l)
    ∙ ap (λ b. olds (v - k) (if b || false then (v - t) ∷ [] else [])) (eq-eqb v v refl) ∙ ap (λ b. b || false) (lt-ltb (v - k) (v - t) (omega (arith, r, l)))
new-old n k js _ one q l = absurd cc

abbrev pub IsBad : ℕ → ℕ → History → ℕ → Type 0
IsBad n k h j = (bad n k h j ≡ true) × (is_among j (adopted h) ≡ true)

pub miscredits-bad : (n k : ℕ) (h : History) → 1 ≤ n → Each (IsBad n k h) (miscredits n k h)
miscredits-bad n k [] one = tt
miscredits-bad n k (s ∷ h) one = by_bool (is_old_data k s.taken && nat_lt k (nth_adopted n (s ∷ h))) refl
    (each-imp (IsBad n k h) (IsBad n k (s ∷ h)) (miscredits n k h) (λ j b. (bad-later n k s h j b.0, among-later j s h b.1)) (miscredits-bad n k h one))
  where
    by_bool : (b : Bool) → (is_old_data k s.taken && nat_lt k (nth_adopted n (s ∷ h))) ≡ b → Each (IsBad n k (s ∷ h)) (miscredits n k h)
        → Each (IsBad n k (s ∷ h)) (cond b (nth_adopted n (s ∷ h) ∷ miscredits n k h) (miscredits n k h))
    by_bool false e ih = ih
    by_bool true e ih = let p = and_parts (is_old_data k s.taken) (nat_lt k (nth_adopted n (s ∷ h))) e in let l : k < nth_adopted n (s ∷ h) = ltb-true k (nth_adopted n (s ∷ h)) p.1 in (
      (
        bad-by n k s h (nth_adopted n (s ∷ h)) l (or_left (olds (nth_adopted n (s ∷ h) - k) (feet_in (take n (adopted (s ∷ h))) (nth_adopted n (s ∷ h)) s.taken)) (olds (nth_adopted n (s ∷ h) - k) (feet_at n (nth_adopted n (s ∷ h)) h))
            (new-old n k (adopted (s ∷ h)) s.taken one p.0 l)),
        at-among k (n - 1) (adopted (s ∷ h)) l,
      ),
      ih,
    )

-- Where k was adopted, or is above the id, each such number is a miscredit.

abbrev IsHeld : ℕ → History → Type 0
IsHeld k h = (is_among k (adopted h) ≡ true) ⊎ (id h < k)

held-before : (k : ℕ) (s : Step) (h : History) → IsHeld k (s ∷ h) → IsHeld k h
held-before k s h (inr p) = inr (omega (arith, p, id-le s h))
held-before k s h (inl a) = by_cases (cases_lt (id h) (id (s ∷ h)))
  where
    by_tells : id h < id (s ∷ h) → is_among k (id (s ∷ h) ∷ adopted h) ≡ true → ((nat_eq (id (s ∷ h)) k ≡ true) × (id (s ∷ h) ≡ k)) ⊎ ((nat_eq (id (s ∷ h)) k ≡ false) × (id (s ∷ h) ≡ k → ⊥)) → IsHeld k h
    by_tells p b (inl e) = inr (let q = e.1 in omega (arith, p, q))
    by_tells p b (inr e) = inl (right-of (id (s ∷ h) == k) (is_among k (adopted h)) e.0 b)

    by_cases : ((id h < id (s ∷ h)) ⊎ (id (s ∷ h) ≤ id h)) → IsHeld k h
    by_cases (inl p) = by_tells p (ap (is_among k) (sym (adopted-more s h p)) ∙ a) (eqb_tells (id (s ∷ h)) k)
    by_cases (inr p) = inl (ap (is_among k) (sym (adopted-same s h p)) ∙ a)

record IsNew (n k j : ℕ) (js : List ℕ) (o : Option Message) : Type 0 where
  pub old : is_old_data k o ≡ true
  pub below : k < nth n js
  pub is : nth n js ≡ j

-- an age above j - k that a step gives the foot j
new-foot : (n k j : ℕ) (js : List ℕ) (o : Option Message) → 1 ≤ n → Falls js → is_among k js ≡ true → k < j → olds (j - k) (feet_in (take n js) j o) ≡ true → IsNew n k j js o
new-foot n k j js (Some (Data t p)) one f a l q = by_foot (foot t (take n js)) refl q
  where
    of_foot : t < k → foot t (take n js) ≡ Some j → ((k < nth n js) ⊎ (nth n js ≤ k)) → IsNew n k j js (Some (Data t p))
    of_foot r e (inl b) = record { old = lt-ltb t k r; below = b; is = (let z : Some (nth n js) ≡ Some j = sym (foot-nth n t k js one r b) ∙ e in cc) }
    of_foot r e (inr b) = absurd (of_least (lowest-most (nat_lt t) k (take n js) (falls-take n js f) (nth-take n k js one f a b) (lt-ltb t k r)))
      where
        of_least : IsUpTo k (foot t (take n js)) → ⊥
        of_least u = let m = u.most in let z : u.number ≡ j = (let y : Some u.number ≡ Some j = sym u.is ∙ e in cc) in omega (arith, m, z, l)

    by_tells : (g : ℕ) → foot t (take n js) ≡ Some g → olds (j - k) (if is_among j (g ∷ []) then (j - t) ∷ [] else []) ≡ true
        → ((nat_eq g j ≡ true) × (g ≡ j)) ⊎ ((nat_eq g j ≡ false) × (g ≡ j → ⊥)) → IsNew n k j js (Some (Data t p))
    by_tells g e q (inl z) = let r : olds (j - k) ((j - t) ∷ []) ≡ true = sym (ap (λ b. olds (j - k) (if b || false then (j - t) ∷ [] else [])) z.0) ∙ q in
        let y : j - k < j - t = ltb-true (j - k) (j - t) (by_or (nat_lt (j - k) (j - t)) r) in of_foot (omega (arith, y)) (e ∙ ap (λ x. Some x) z.1) (cases_lt k (nth n js))
      where
        by_or : (b : Bool) → (b || false) ≡ true → b ≡ true
        by_or true r = refl
        by_or false r = r
    by_tells g e q (inr z) = absurd (let r : false ≡ true = sym (ap (λ b. olds (j - k) (if b || false then (j - t) ∷ [] else [])) z.0) ∙ q in cc)

    by_foot : (o : Option ℕ) → foot t (take n js) ≡ o → olds (j - k) (if is_among j (listed o) then (j - t) ∷ [] else []) ≡ true → IsNew n k j js (Some (Data t p))
    by_foot None e q = absurd cc
    by_foot (Some g) e q = by_tells g e q (eqb_tells g j)
new-foot n k j js _ one f a l q = absurd cc

bad-miscredits : (n k : ℕ) (h : History) → 1 ≤ n → IsHeld k h → (j : ℕ) → bad n k h j ≡ true → Member j (miscredits n k h)
bad-miscredits n k [] one a j q = absurd (let p = (and_parts (nat_lt k j) false q).1 in cc)
bad-miscredits n k (s ∷ h) one a j q = of_parts (and_parts (nat_lt k j) (olds (j - k) (feet_at n j (s ∷ h))) q) a (bad-miscredits n k h one (held-before k s h a) j)
  where
    earlier : (b : Bool) → Member j (miscredits n k h) → Member j (cond b (nth_adopted n (s ∷ h) ∷ miscredits n k h) (miscredits n k h))
    earlier true m = inr m
    earlier false m = m

    later : IsNew n k j (adopted (s ∷ h)) s.taken → Member j (miscredits n k (s ∷ h))
    later w = subst (λ b. Member j (cond b (nth_adopted n (s ∷ h) ∷ miscredits n k h) (miscredits n k h))) (sym (λ i. w.old i && lt-ltb k (nth_adopted n (s ∷ h)) w.below i)) (inl (sym w.is))

    by_old : k < j → is_among k (adopted (s ∷ h)) ≡ true → (olds (j - k) (feet_in (take n (adopted (s ∷ h))) j s.taken) || olds (j - k) (feet_at n j h)) ≡ true → (bad n k h j ≡ true → Member j (miscredits n k h))
        → ((olds (j - k) (feet_in (take n (adopted (s ∷ h))) j s.taken) ≡ true) ⊎ (olds (j - k) (feet_in (take n (adopted (s ∷ h))) j s.taken) ≡ false)) → Member j (miscredits n k (s ∷ h))
    by_old l a r ih (inl z) = later (new-foot n k j (adopted (s ∷ h)) s.taken one (adopted-falls (s ∷ h)) a l z)
    by_old l a r ih (inr z) = earlier (is_old_data k s.taken && nat_lt k (nth_adopted n (s ∷ h)))
        (ih (λ i. lt-ltb k j l i && right-of (olds (j - k) (feet_in (take n (adopted (s ∷ h))) j s.taken)) (olds (j - k) (feet_at n j h)) z r i))

    of_parts : (nat_lt k j ≡ true) × (olds (j - k) (feet_at n j (s ∷ h)) ≡ true) → IsHeld k (s ∷ h) → (bad n k h j ≡ true → Member j (miscredits n k h)) → Member j (miscredits n k (s ∷ h))
    of_parts p (inl a) ih = by_old (ltb-true k j p.0) a (sym (olds-append (j - k) (feet_in (take n (adopted (s ∷ h))) j s.taken) (feet_at n j h)) ∙ p.1) ih
        (cases_Bool (olds (j - k) (feet_in (take n (adopted (s ∷ h))) j s.taken)))
    of_parts p (inr b) ih = let l : k < j = ltb-true k j p.0 in absurd (let z : olds (j - k) [] ≡ true = sym (ap (olds (j - k)) (feet-none n j (s ∷ h) (omega (arith, b, l)))) ∙ p.1 in cc)

-- where k was adopted, the least miscredit is the least entry that is one
miscredited : (n k : ℕ) (h : History) → 1 ≤ n → is_among k (adopted h) ≡ true → least (miscredits n k h) ≡ lowest (bad n k h) (adopted h)
miscredited n k h one a = least-is (bad n k h) (adopted h) (miscredits n k h) (adopted-falls h) (miscredits-bad n k h one) (bad-miscredits n k h one (inl a))

-- What is told.

told-kept : (n : ℕ) (cs : List ℕ) (k : ℕ) (h : History) (o a : Option ℕ) → judged (Some (entry n cs h k)) (option_map (entry n cs h) o) (option_map (entry n cs h) a) ≡ told n cs k h (first_cause None o)
told-kept n cs k h None a = refl
told-kept n cs k h (Some j) a = refl

judged-is : (n : ℕ) (cs : List ℕ) (k : ℕ) (h : History) → 1 ≤ n → 1 ≤ k → k ≤ id h → ((is_among k (adopted h) ≡ true) ⊎ (is_among k (adopted h) ≡ false))
    → judged (if is_among k (adopted h) then Some (entry n cs h k) else None) (option_map (entry n cs h) (lowest (bad n k h) (adopted h))) (option_map (entry n cs h) (lowest (nat_lt k) (adopted h)))
    ≡ row n cs k h
judged-is n cs k h some one p (inl q) = let s : skipped_to k h ≡ None = skips k h one ∙ ap (λ b. if b then None else lowest (nat_lt k) (adopted h)) q in
    rw (q, s) (told-kept n cs k h (lowest (bad n k h) (adopted h)) (lowest (nat_lt k) (adopted h)) ∙ ap (λ o. told n cs k h (first_cause None o)) (sym (miscredited n k h some q)))
judged-is n cs k h some one p (inr q) = let a = above-some k h one p q in
    let s : skipped_to k h ≡ Some a.above = skips k h one ∙ ap (λ b. if b then None else lowest (nat_lt k) (adopted h)) q ∙ a.is in
    rw (q, s, a.is) refl

pub saved-is-row : (n : ℕ) (cs : List ℕ) (h : History) (k : ℕ) → 1 ≤ n → 1 ≤ k → k ≤ id h → saved k (saves n (calls cs h)) ≡ row n cs k h
saved-is-row n cs h k some one p = ap (saved k) (entries-are n cs h)
    ∙ (λ i. judged (find-map (entry n cs h) k (adopted h) (λ x. refl) i) (least-map (entry n cs h) (is_miscredit k) (adopted h) (entries-chain n cs h) i) (least-map (entry n cs h) (is_above k) (adopted h) (entries-chain n cs h) i))
    ∙ judged-is n cs k h some one p (cases_Bool (is_among k (adopted h)))

-- A row of a number up to the id stays where no data with a stamp below it comes.

-- a foot no older than k leaves a reach that is older
reach-more : (js : List ℕ) (k j : ℕ) (o : Option Message) (xs : List ℕ) → is_old_data k o ≡ false → j - k < greatest xs → greatest (feet_in js j o ++ xs) ≡ greatest xs
reach-more js k j (Some (Data s p)) xs q l = by_bool (is_among j (listed (foot s js)))
  where
    by_bool : (b : Bool) → greatest ((if b then (j - s) ∷ [] else []) ++ xs) ≡ greatest xs
    by_bool true = let t : k ≤ s = ltb-false s k q in omega (arith, t, l)
    by_bool false = refl
reach-more js k j _ xs q l = refl

-- the reach of the least miscredit
reach-least : (n k : ℕ) (h : History) (j : ℕ) → 1 ≤ n → least (miscredits n k h) ≡ Some j → j - k < reach_at n j h
reach-least n k h j one q = let b = each-at (IsBad n k h) j (miscredits n k h) (miscredits-bad n k h one) (least-of j (miscredits n k h) q).one in
    ltb-true (j - k) (reach_at n j h) (any-greatest (j - k) (feet_at n j h) ∙ (and_parts _ _ b.0).1)

-- with no credit there is no foot
feet-empty : (k : ℕ) (o : Option Message) → feet_in [] k o ≡ []
feet-empty k (Some (Data s p)) = refl
feet-empty k _ = refl

reach-stays : (n k : ℕ) (s : Step) (h : History) (j : ℕ) → is_old_data k s.taken ≡ false → least (miscredits n k h) ≡ Some j → reach_at n j (s ∷ h) ≡ reach_at n j h
reach-stays zero k s h j q e = ap (λ xs. greatest (xs ++ feet_at 0 j h)) (feet-empty j s.taken)
reach-stays (suc n) k s h j q e = reach-more (take (suc n) (adopted (s ∷ h))) k j s.taken (feet_at (suc n) j h) q (reach-least (suc n) k h j (omega arith) e)

told-stays : (n : ℕ) (cs : List ℕ) (k : ℕ) (s : Step) (h : History) → k ≤ id h → is_old_data k s.taken ≡ false → (a o : Option ℕ) → ((j : ℕ) → o ≡ Some j → reach_at n j (s ∷ h) ≡ reach_at n j h)
    → told n cs k (s ∷ h) (first_cause a o) ≡ told n cs k h (first_cause a o)
told-stays n cs k s h p q (Some j) o r = refl
told-stays n cs k s h p q None (Some j) r = ap (Miscredited j) (r j refl)
told-stays n cs k s h p q None None r = let b = before-same k s h (omega (arith, p, id-le s h)) in
    let c = credits-same n cs k s h (credit-clear cs k s.choice s.taken q) in λ i. Value (packets (b i)) (bytes (b i)) (totals (c i))

pub row-stays : (n : ℕ) (cs : List ℕ) (k : ℕ) (s : Step) (h : History) → k ≤ id h → is_old_data k s.taken ≡ false → row n cs k (s ∷ h) ≡ row n cs k h
row-stays n cs k s h p q =
    let a : skipped_to k (s ∷ h) ≡ skipped_to k h = ap (λ b. if b then Some (id (s ∷ h)) else skipped_to k h) (and_left (nat_lt (id h) k) (nat_lt k (id (s ∷ h))) (le-ltb (id h) k p)) in
    let m : miscredits n k (s ∷ h) ≡ miscredits n k h = miscredits-none n k s h (and_left (is_old_data k s.taken) (nat_lt k (nth_adopted n (s ∷ h))) q) in
    (λ i. told n cs k (s ∷ h) (first_cause (a i) (least (m i)))) ∙ told-stays n cs k s h p q (skipped_to k h) (least (miscredits n k h)) (λ j e. reach-stays n k s h j q e)
