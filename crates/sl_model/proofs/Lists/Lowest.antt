-- Of falling numbers, the least that passes a test is the last of them.
use Rattle.std.proofs.Common.{◌≡◌, ℕ, zero, suc, ◌<◌, ◌≤◌, List, [], ◌∷◌, refl, sym, ap, subst, ◌∙◌, Option, Some, None, arith, inl, inr}
use Rattle.std.specs.Prelude.{true, false, Bool, nat_lt, nat_eq, ◌==◌, ◌||◌, map, filter, take, min, unwrap_or, option_map, ◌⊎◌, if◌then◌else◌}
use Rattle.std.proofs.lemmas.Bool.{lt-ltb, ne_eqb, cases_lt}
use Rattle.std.proofs.lemmas.Bool.Decides.{eqb_tells}
use Rattle.sl_saves.specs.Calls.{Save, find, least_save}
use Rattle.sl_saves.proofs.Chains.{IsChain, least-older}
use Rattle.sl_parts.specs.Lists.{Each, Member}
use Rattle.sl_parts.proofs.Lists.{each-imp, each-of, each-at}
use Rattle.sl_route.specs.Least.{least_in, least}
use Rattle.sl_model.specs.Rows.{is_among, or_else, lowest}

or-some : (o : Option ℕ) (x : ℕ) → (y : ℕ) × (or_else o (Some x) ≡ Some y)
or-some None x = (x, refl)
or-some (Some y) x = (y, refl)

pub lowest-above : (k x : ℕ) (xs : List ℕ) → k < x → (y : ℕ) × (lowest (nat_lt k) (x ∷ xs) ≡ Some y)
lowest-above k x xs p = let o = or-some (lowest (nat_lt k) xs) x in (o.0, ap (λ b. or_else (lowest (nat_lt k) xs) (if b then Some x else None)) (lt-ltb k x p) ∙ o.1)

pub lowest-none : (p : ℕ → Bool) (xs : List ℕ) → Each (λ x. p x ≡ false) xs → lowest p xs ≡ None
lowest-none p [] h = refl
lowest-none p (x ∷ xs) h = rw (lowest-none p xs h.1, h.0) refl

pub among-none : (k : ℕ) (xs : List ℕ) → Each (λ x. x < k) xs → is_among k xs ≡ false
among-none k [] h = refl
among-none k (x ∷ xs) h = rw (ne_eqb x k (let p : x < k = h.0 in λ e. omega (arith, p, e)), among-none k xs h.1) refl

-- entries made for numbers: the one of k, and the least of those that pass
pub find-map : (f : ℕ → Save) (k : ℕ) (xs : List ℕ) → ((x : ℕ) → (f x).number ≡ x) → find k (map f xs) ≡ (if is_among k xs then Some (f k) else None)
find-map f k [] n = refl
find-map f k (x ∷ xs) n = by_tells (eqb_tells x k) (find-map f k xs n)
  where
    by_tells : ((nat_eq x k ≡ true) × (x ≡ k)) ⊎ ((nat_eq x k ≡ false) × (x ≡ k → ⊥)) → find k (map f xs) ≡ (if is_among k xs then Some (f k) else None)
        → (if (f x).number == k then Some (f x) else find k (map f xs)) ≡ (if (x == k) || is_among k xs then Some (f k) else None)
    by_tells (inl p) ih = ap (λ y. if y == k then Some (f x) else find k (map f xs)) (n x) ∙ rw p.0 (ap (λ y. Some (f y)) p.1)
    by_tells (inr p) ih = ap (λ y. if y == k then Some (f x) else find k (map f xs)) (n x) ∙ rw p.0 ih

pub least-map : (f : ℕ → Save) (p : Save → Bool) (xs : List ℕ) → IsChain (map f xs) → least_save (filter p (map f xs)) ≡ option_map f (lowest (λ x. p (f x)) xs)
least-map f p [] c = refl
least-map f p (x ∷ xs) c = by_bool (p (f x)) (least-map f p xs c.2)
  where
    by_some : (o : Option ℕ) → Some (unwrap_or (option_map f o) (f x)) ≡ option_map f (or_else o (Some x))
    by_some None = refl
    by_some (Some y) = refl

    by_none : (o : Option ℕ) → option_map f o ≡ option_map f (or_else o None)
    by_none None = refl
    by_none (Some y) = refl

    by_bool : (b : Bool) → least_save (filter p (map f xs)) ≡ option_map f (lowest (λ x. p (f x)) xs)
        → least_save (if b then f x ∷ filter p (map f xs) else filter p (map f xs)) ≡ option_map f (or_else (lowest (λ x. p (f x)) xs) (if b then Some x else None))
    by_bool true ih = least-older p (f x) (map f xs) c ∙ ap (λ o. Some (unwrap_or o (f x))) ih ∙ by_some (lowest (λ x. p (f x)) xs)
    by_bool false ih = ih ∙ by_none (lowest (λ x. p (f x)) xs)

-- Falling numbers.

abbrev pub Falls : List ℕ → Type 0
Falls [] = Unit {0}
Falls (x ∷ xs) = Each (λ y. y < x) xs × Falls xs

pub each-take : (P : ℕ → Type 0) (n : ℕ) (xs : List ℕ) → Each P xs → Each P (take n xs)
each-take P zero xs e = tt
each-take P (suc n) [] e = tt
each-take P (suc n) (x ∷ xs) e = (e.0, each-take P n xs e.1)

pub falls-take : (n : ℕ) (xs : List ℕ) → Falls xs → Falls (take n xs)
falls-take zero xs f = tt
falls-take (suc n) [] f = tt
falls-take (suc n) (x ∷ xs) f = (each-take (λ y. y < x) n xs f.0, falls-take n xs f.1)

pub right-of : (a b : Bool) → a ≡ false → (a || b) ≡ true → b ≡ true
right-of true b p q = absurd cc
right-of false b p q = q

pub among-member : (k : ℕ) (xs : List ℕ) → is_among k xs ≡ true → Member k xs
among-member k [] q = absurd cc
among-member k (x ∷ xs) q = by_tells (eqb_tells x k) (among-member k xs)
  where
    by_tells : ((nat_eq x k ≡ true) × (x ≡ k)) ⊎ ((nat_eq x k ≡ false) × (x ≡ k → ⊥)) → (is_among k xs ≡ true → Member k xs) → Member k (x ∷ xs)
    by_tells (inl p) ih = inl (sym p.1)
    by_tells (inr p) ih = inr (ih (right-of (x == k) (is_among k xs) p.0 q))

pub among-each : (P : ℕ → Type 0) (k : ℕ) (xs : List ℕ) → Each P xs → is_among k xs ≡ true → P k
among-each P k xs e q = each-at P k xs e (among-member k xs q)

-- what holds of each number that passes holds of the lowest
pub each-lowest : (P : ℕ → Type 0) (p : ℕ → Bool) (xs : List ℕ) (j : ℕ) → Each (λ x. p x ≡ true → P x) xs → lowest p xs ≡ Some j → P j
each-lowest P p [] j e q = absurd cc
each-lowest P p (x ∷ xs) j e q = by_rest (lowest p xs) (p x) e.0 q (each-lowest P p xs j e.1)
  where
    by_rest : (o : Option ℕ) (b : Bool) → (b ≡ true → P x) → or_else o (if b then Some x else None) ≡ Some j → (o ≡ Some j → P j) → P j
    by_rest (Some y) b i q ih = ih q
    by_rest None true i q ih = let e : x ≡ j = cc in subst P e (i refl)
    by_rest None false i q ih = absurd cc

pub lowest-passes : (p : ℕ → Bool) (xs : List ℕ) (j : ℕ) → lowest p xs ≡ Some j → p j ≡ true
lowest-passes p xs j q = each-lowest (λ x. p x ≡ true) p xs j (each-of (λ x. p x ≡ true → p x ≡ true) xs (λ x m r. r)) q

-- a number, at most k
pub record IsUpTo (k : ℕ) (o : Option ℕ) : Type 0 where
  pub number : ℕ
  pub is : o ≡ Some number
  pub most : number ≤ k

-- of falling numbers the lowest lies at or below each that passes
pub lowest-most : (p : ℕ → Bool) (k : ℕ) (xs : List ℕ) → Falls xs → is_among k xs ≡ true → p k ≡ true → IsUpTo k (lowest p xs)
lowest-most p k [] f m q = absurd cc
lowest-most p k (x ∷ xs) f m q = by_tells (eqb_tells x k) (λ n. lowest-most p k xs f.1 n q)
  where
    here : p x ≡ true → x ≤ k → (o : Option ℕ) → lowest p xs ≡ o → IsUpTo k (lowest p (x ∷ xs))
    here r l None e = record { number = x; is = (λ i. or_else (e i) (if r i then Some x else None)); most = l }
    here r l (Some y) e = let b = each-lowest (λ z. z < x) p xs y (each-imp (λ z. z < x) (λ z. p z ≡ true → z < x) xs (λ z b t. b) f.0) e in
        record { number = y; is = ap (λ o. or_else o (if p x then Some x else None)) e; most = omega (arith, b, l) }

    by_tells : ((nat_eq x k ≡ true) × (x ≡ k)) ⊎ ((nat_eq x k ≡ false) × (x ≡ k → ⊥)) → (is_among k xs ≡ true → IsUpTo k (lowest p xs)) → IsUpTo k (lowest p (x ∷ xs))
    by_tells (inl e) ih = here (ap p e.1 ∙ q) (let i = e.1 in omega (arith, i)) (lowest p xs) refl
    by_tells (inr e) ih = let r = ih (right-of (x == k) (is_among k xs) e.0 m) in
        record { number = r.number; is = ap (λ o. or_else o (if p x then Some x else None)) r.is; most = r.most }

-- The least of a list is one of its numbers, and no number of it lies below.

record IsLeast (m a : ℕ) (xs : List ℕ) : Type 0 where
  pub start : m ≤ a
  pub each : Each (λ x. m ≤ x) xs
  pub one : (m ≡ a) ⊎ Member m xs

is-least : (a m : ℕ) (xs : List ℕ) → least_in (Some a) xs ≡ Some m → IsLeast m a xs
is-least a m [] q = let e : a ≡ m = cc in record { start = omega (arith, e); each = tt; one = inl (sym e) }
is-least a m (x ∷ xs) q = of_rest (is-least (min a x) m xs q)
  where
    of_one : m ≤ min a x → ((a < x) ⊎ (x ≤ a)) → (m ≡ min a x) ⊎ Member m xs → (m ≡ a) ⊎ Member m (x ∷ xs)
    of_one s c (inr r) = inr (inr r)
    of_one s (inl l) (inl e) = inl (omega (arith, l, e))
    of_one s (inr l) (inl e) = inr (inl (omega (arith, l, e)))

    of_rest : IsLeast m (min a x) xs → IsLeast m a (x ∷ xs)
    of_rest r = let s = r.start in record { start = omega (arith, s); each = (omega (arith, s), r.each); one = of_one r.start (cases_lt a x) r.one }

pub record IsLeastOf (m : ℕ) (xs : List ℕ) : Type 0 where
  pub each : Each (λ x. m ≤ x) xs
  pub one : Member m xs

pub least-of : (m : ℕ) (xs : List ℕ) → least xs ≡ Some m → IsLeastOf m xs
least-of m [] q = absurd cc
least-of m (x ∷ xs) q = of_least (is-least (min x x) m xs q)
  where
    of_one : (m ≡ min x x) ⊎ Member m xs → Member m (x ∷ xs)
    of_one (inl e) = inl (omega (arith, e))
    of_one (inr r) = inr r

    of_least : IsLeast m (min x x) xs → IsLeastOf m (x ∷ xs)
    of_least l = let s = l.start in record { each = (omega (arith, s), l.each); one = of_one l.one }

pub none-least : (xs : List ℕ) → least xs ≡ None → xs ≡ []
none-least [] e = refl
none-least (x ∷ xs) e = absurd (some (min x x) xs e)
  where
    some : (a : ℕ) (xs : List ℕ) → least_in (Some a) xs ≡ None → ⊥
    some a [] e = cc
    some a (x ∷ xs) e = some (min a x) xs e

-- the least of some numbers is the lowest of falling ones, where they are those that pass
pub least-is : (p : ℕ → Bool) (xs ms : List ℕ) → Falls xs → Each (λ m. (p m ≡ true) × (is_among m xs ≡ true)) ms → ((j : ℕ) → p j ≡ true → Member j ms) → least ms ≡ lowest p xs
least-is p xs ms f e g = of_least (least ms) refl
  where
    of_lowest : ms ≡ [] → (o : Option ℕ) → lowest p xs ≡ o → None ≡ o
    of_lowest n None q = refl
    of_lowest n (Some j) q = absurd (subst (Member j) n (g j (lowest-passes p xs j q)))

    of_number : (m : ℕ) → IsLeastOf m ms → (p m ≡ true) × (is_among m xs ≡ true) → Some m ≡ lowest p xs
    of_number m l t = let u = lowest-most p m xs f t.1 t.0 in let b = u.most in
        let a = each-at (λ x. m ≤ x) u.number ms l.each (g u.number (lowest-passes p xs u.number u.is)) in
        ap Some (omega (arith, a, b)) ∙ sym u.is

    of_least : (o : Option ℕ) → least ms ≡ o → least ms ≡ lowest p xs
    of_least None q = q ∙ of_lowest (none-least ms q) (lowest p xs) refl
    of_least (Some m) q = let l = least-of m ms q in q ∙ of_number m l (each-at (λ m. (p m ≡ true) × (is_among m xs ≡ true)) m ms e l.one)
