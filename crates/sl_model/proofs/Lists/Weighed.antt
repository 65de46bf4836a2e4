-- Sums over lists, also lists that grow, and lengths of lists of keys.
use Rattle.std.proofs.Common.{◌*◌, ◌+◌, ◌++◌, ◌<◌, mul-add, ◌==◌, List, ap, eq-eqb, inl, inr, length, not, refl, subst, suc, sym, zero, ℕ, ◌∙◌, ◌∷◌, ◌≡◌, ◌≤◌, arith, [], take, get_or}
use Rattle.std.specs.Prelude.{Bool, cond, false, filter, flat_map, map, nat_eq, true, ◌⊎◌, if◌then◌else◌}
use Rattle.std.proofs.lemmas.Bool.{cases_lt}
use Rattle.std.proofs.lemmas.Bool.Decides.{eqb_tells}
use Rattle.sl_parts.specs.Parts.{below}
use Rattle.sl_parts.specs.Lists.{Each, Member}
use Rattle.sl_parts.proofs.Lists.{distinct-map, each-passes, member-of-map, distinct-filter, each-at, kept-member, member-from, Distinct, filter_below_more}
use Rattle.sl_model.specs.Words.{tally, weigh}
use Rattle.std.proofs.lemmas.List.{length-map, take_more}
use Rattle.std.proofs.lemmas.List.FromFn.{length-range_with_len}
use Rattle.std.specs.List.{range_with_len}

pub weigh-append : {A : Type 0} (f : A → ℕ) (xs ys : List A) → weigh f (xs ++ ys) ≡ weigh f xs + weigh f ys
weigh-append f [] ys = omega arith
weigh-append f (x ∷ xs) ys = omega (arith, weigh-append f xs ys)

pub weigh-plus : {A : Type 0} (f g : A → ℕ) (xs : List A) → weigh (λ x. f x + g x) xs ≡ weigh f xs + weigh g xs
weigh-plus f g [] = refl
weigh-plus f g (x ∷ xs) = omega (arith, weigh-plus f g xs)

weigh-zeros : {A : Type 0} (xs : List A) → weigh (λ x. 0) xs ≡ 0
weigh-zeros [] = refl
weigh-zeros (x ∷ xs) = omega (arith, weigh-zeros xs)

pub weigh-nothing : {A : Type 0} (f : A → ℕ) (xs : List A) → ((x : A) → f x ≤ 0) → weigh f xs ≤ 0
weigh-nothing f [] h = omega arith
weigh-nothing f (x ∷ xs) h = omega (arith, h x, weigh-nothing f xs h)

pub weigh-at-most : {A : Type 0} (f g : A → ℕ) (xs : List A) → ((x : A) → f x ≤ g x) → weigh f xs ≤ weigh g xs
weigh-at-most f g [] h = omega arith
weigh-at-most f g (x ∷ xs) h = omega (arith, h x, weigh-at-most f g xs h)

pub weigh-below : {A : Type 0} (f g : A → ℕ) (xs : List A) → Each (λ x. f x ≤ g x) xs → weigh f xs ≤ weigh g xs
weigh-below f g [] h = omega arith
weigh-below f g (x ∷ xs) h = omega (arith, h.0, weigh-below f g xs h.1)

pub weigh-each : {A : Type 0} (f : A → ℕ) (n : ℕ) (xs : List A) → ((x : A) → f x ≤ n) → weigh f xs ≤ n * length xs
weigh-each f n [] h = omega arith
weigh-each f n (x ∷ xs) h = let e : n * suc (length xs) ≡ n + n * length xs = omega arith in omega (arith, h x, weigh-each f n xs h, e)

pub weigh-times : {A : Type 0} (m : ℕ) (f : A → ℕ) (xs : List A) → weigh (λ x. m * f x) xs ≡ m * weigh f xs
weigh-times m f [] = omega arith
weigh-times m f (x ∷ xs) = omega (arith, weigh-times m f xs, mul-add m (f x) (weigh f xs))

pub weigh-zero : (f : ℕ → ℕ) (xs : List ℕ) (x : ℕ) → weigh f xs ≡ 0 → Member x xs → f x ≡ 0
weigh-zero f [] x h m = absurd m
weigh-zero f (y ∷ ys) x h (inl e) = let k : f y ≡ 0 = omega (arith, h) in ap f e ∙ k
weigh-zero f (y ∷ ys) x h (inr m) = weigh-zero f ys x (omega (arith, h)) m

pub weigh-member : (f : ℕ → ℕ) (xs : List ℕ) (x : ℕ) → Member x xs → f x ≤ weigh f xs
weigh-member f [] x m = absurd m
weigh-member f (y ∷ ys) x (inl e) = omega (arith, ap f e)
weigh-member f (y ∷ ys) x (inr m) = omega (arith, weigh-member f ys x m)

pub weigh-falls : (f g : ℕ → ℕ) (n : ℕ) (xs : List ℕ) (x : ℕ) → Each (λ x. f x ≤ g x) xs → Member x xs → f x + n ≤ g x → weigh f xs + n ≤ weigh g xs
weigh-falls f g n [] x h m d = absurd m
weigh-falls f g n (y ∷ ys) x h (inl e) d = omega (arith, weigh-below f g ys h.1, d, ap f e, ap g e)
weigh-falls f g n (y ∷ ys) x h (inr m) d = omega (arith, h.0, weigh-falls f g n ys x h.1 m d)

-- Sums over numbers.

-- of the numbers from a start on, at most one is k
weigh-none : (f : ℕ → ℕ) (k start n : ℕ) → k < start → weigh (λ l. cond (k == l) (f l) 0) (range_with_len start n) ≡ 0
weigh-none f k start zero h = refl
weigh-none f k start (suc n) h = by_tells (eqb_tells k start) (weigh-none f k (start + 1) n (omega (arith, h)))
  where
    by_tells : ((nat_eq k start ≡ true) × (k ≡ start)) ⊎ ((nat_eq k start ≡ false) × (k ≡ start → ⊥)) → weigh (λ l. cond (k == l) (f l) 0) (range_with_len (start + 1) n) ≡ 0
        → cond (k == start) (f start) 0 + weigh (λ l. cond (k == l) (f l) 0) (range_with_len (start + 1) n) ≡ 0
    by_tells (inl q) r = absurd (omega (arith, h, q.1))
    by_tells (inr q) r = subst (λ b. cond b (f start) 0 + weigh (λ l. cond (k == l) (f l) 0) (range_with_len (start + 1) n) ≡ 0) (sym q.0) (omega (arith, r))

pub weigh-once : (f : ℕ → ℕ) (k start n : ℕ) → weigh (λ l. cond (k == l) (f l) 0) (range_with_len start n) ≤ f k
weigh-once f k start zero = omega arith
weigh-once f k start (suc n) = by_tells (eqb_tells k start) (weigh-once f k (start + 1) n)
  where
    rest : ℕ
    rest = weigh (λ l. cond (k == l) (f l) 0) (range_with_len (start + 1) n)

    by_tells : ((nat_eq k start ≡ true) × (k ≡ start)) ⊎ ((nat_eq k start ≡ false) × (k ≡ start → ⊥)) → weigh (λ l. cond (k == l) (f l) 0) (range_with_len (start + 1) n) ≤ f k
        → cond (k == start) (f start) 0 + weigh (λ l. cond (k == l) (f l) 0) (range_with_len (start + 1) n) ≤ f k
    by_tells (inl q) r = let z : weigh (λ l. cond (k == l) (f l) 0) (range_with_len (start + 1) n) ≡ 0 = weigh-none f k (start + 1) n (omega (arith, q.1)) in
        let e : f start ≡ f k = ap f (sym q.1) in subst (λ b. cond b (f start) 0 + weigh (λ l. cond (k == l) (f l) 0) (range_with_len (start + 1) n) ≤ f k) (sym q.0) (omega (arith, z, e))
    by_tells (inr q) r = subst (λ b. cond b (f start) 0 + weigh (λ l. cond (k == l) (f l) 0) (range_with_len (start + 1) n) ≤ f k) (sym q.0) (omega (arith, r))

-- sums that differ at one number
weigh-same : (f g : ℕ → ℕ) (a start n : ℕ) → ((x : ℕ) → (x ≡ a → ⊥) → g x ≡ f x) → a < start → weigh g (range_with_len start n) ≡ weigh f (range_with_len start n)
weigh-same f g a start zero same h = refl
weigh-same f g a start (suc n) same h = omega (arith, same start (λ e. omega (arith, e, h)), weigh-same f g a (start + 1) n same (omega (arith, h)))

pub weigh-one : (f g : ℕ → ℕ) (a start n : ℕ) → ((x : ℕ) → (x ≡ a → ⊥) → g x ≡ f x) → start ≤ a → a < start + n → weigh g (range_with_len start n) + f a ≡ weigh f (range_with_len start n) + g a
weigh-one f g a start zero same h k = absurd (omega (arith, h, k))
weigh-one f g a start (suc n) same h k = by_tells (eqb_tells start a) (λ b. weigh-one f g a (start + 1) n same b (omega (arith, k)))
  where
    by_tells : ((nat_eq start a ≡ true) × (start ≡ a)) ⊎ ((nat_eq start a ≡ false) × (start ≡ a → ⊥)) → (start + 1 ≤ a → weigh g (range_with_len (start + 1) n) + f a ≡ weigh f (range_with_len (start + 1) n) + g a)
        → (g start + weigh g (range_with_len (start + 1) n)) + f a ≡ (f start + weigh f (range_with_len (start + 1) n)) + g a
    by_tells (inl q) ih = omega (arith, weigh-same f g a (start + 1) n same (omega (arith, q.1)), ap f q.1, ap g q.1)
    by_tells (inr q) ih = omega (arith, same start q.1, ih (above (cases_lt start a)))
      where
        above : ((start < a) ⊎ (a ≤ start)) → start + 1 ≤ a
        above (inl m) = omega arith
        above (inr m) = absurd (q.1 (omega (arith, h, m)))

-- the order of two sums
pub weigh-swap : {A B : Type 0} (f : A → B → ℕ) (xs : List A) (ys : List B) → weigh (λ x. weigh (f x) ys) xs ≡ weigh (λ y. weigh (λ x. f x y) xs) ys
weigh-swap f [] ys = sym (weigh-zeros ys)
weigh-swap f (x ∷ xs) ys = ap (λ n. weigh (f x) ys + n) (weigh-swap f xs ys) ∙ sym (weigh-plus (f x) (λ y. weigh (λ x. f x y) xs) ys)

pub weigh-same-each : {A : Type 0} (f g : A → ℕ) (xs : List A) → ((x : A) → f x ≡ g x) → weigh f xs ≡ weigh g xs
weigh-same-each f g [] h = refl
weigh-same-each f g (x ∷ xs) h = omega (arith, h x, weigh-same-each f g xs h)

pub weigh-filtered : {A : Type 0} (f : A → ℕ) (t : A → Bool) (xs : List A) → weigh f (filter t xs) ≡ weigh (λ x. if t x then f x else 0) xs
weigh-filtered f t [] = refl
weigh-filtered f t (x ∷ xs) = by_bool (t x) (weigh-filtered f t xs)
  where
    by_bool : (b : Bool) → weigh f (filter t xs) ≡ weigh (λ x. if t x then f x else 0) xs → weigh f (cond b (x ∷ filter t xs) (filter t xs)) ≡ (if b then f x else 0) + weigh (λ x. if t x then f x else 0) xs
    by_bool true h = ap (λ n. f x + n) h
    by_bool false h = omega (arith, h)

pub weigh-ones-is : {A : Type 0} (xs : List A) → weigh (λ x. 1) xs ≡ length xs
weigh-ones-is [] = refl
weigh-ones-is (x ∷ xs) = omega (arith, weigh-ones-is xs)

pub tally-is : {A : Type 0} (t : A → Bool) (xs : List A) → tally t xs ≡ length (filter t xs)
tally-is t xs = sym (weigh-filtered (λ x. 1) t xs) ∙ weigh-ones-is (filter t xs)

pub weigh-flat : {A B : Type 0} (f : B → ℕ) (g : A → List B) (xs : List A) → weigh f (flat_map g xs) ≡ weigh (λ x. weigh f (g x)) xs
weigh-flat f g [] = refl
weigh-flat f g (x ∷ xs) = omega (arith, weigh-append f (g x) (flat_map g xs), weigh-flat f g xs)

-- what counts at one number of each element counts once
pub weigh-keyed : {A : Type 0} (key : A → ℕ) (f : A → ℕ) (n : ℕ) (xs : List A) → weigh (λ a. weigh (λ x. if key x == a then f x else 0) xs) (below n) ≤ weigh f xs
weigh-keyed key f n xs = omega (arith, weigh-swap (λ a x. if key x == a then f x else 0) (below n) xs, weigh-at-most (λ x. weigh (λ a. if key x == a then f x else 0) (below n)) f xs (λ x. at_once x))
  where
    same : (x : _) → weigh (λ a. if key x == a then f x else 0) (below n) ≡ weigh (λ a. cond (key x == a) (f x) 0) (below n)
    same x = weigh-same-each (λ a. if key x == a then f x else 0) (λ a. cond (key x == a) (f x) 0) (below n) (λ a. by_bool (key x == a))
      where
        by_bool : (b : Bool) → (if b then f x else 0) ≡ cond b (f x) 0
        by_bool true = refl
        by_bool false = refl

    at_once : (x : _) → weigh (λ a. if key x == a then f x else 0) (below n) ≤ f x
    at_once x = omega (arith, same x, weigh-once (λ a. f x) (key x) 0 n)

-- A list without doubles is no longer than a list that has all its elements.

not-this : (y : ℕ) (xs : List ℕ) → Distinct xs → length xs ≤ suc (length (filter (λ x. not (x == y)) xs))
not-this y [] d = omega arith
not-this y (x ∷ xs) d = by_tells (eqb_tells x y) (not-this y xs d.1)
  where
    all-else : (zs : List ℕ) → (Member y zs → ⊥) → length (filter (λ x. not (x == y)) zs) ≡ length zs
    all-else [] k = refl
    all-else (z ∷ zs) k = by_other (eqb_tells z y) (all-else zs (λ m. k (inr m)))
      where
        by_other : ((nat_eq z y ≡ true) × (z ≡ y)) ⊎ ((nat_eq z y ≡ false) × (z ≡ y → ⊥)) → length (filter (λ x. not (x == y)) zs) ≡ length zs → length (cond (not (z == y)) (z ∷ filter (λ x. not (x == y)) zs) (filter (λ x. not (x == y)) zs)) ≡ suc (length zs)
        by_other (inl q) h = absurd (k (inl (sym q.1)))
        by_other (inr q) h = ap (λ b. length (cond (not b) (z ∷ filter (λ x. not (x == y)) zs) (filter (λ x. not (x == y)) zs))) q.0 ∙ ap suc h

    by_tells : ((nat_eq x y ≡ true) × (x ≡ y)) ⊎ ((nat_eq x y ≡ false) × (x ≡ y → ⊥)) → length xs ≤ suc (length (filter (λ x. not (x == y)) xs))
        → suc (length xs) ≤ suc (length (cond (not (x == y)) (x ∷ filter (λ x. not (x == y)) xs) (filter (λ x. not (x == y)) xs)))
    by_tells (inl q) h = let e : length (filter (λ x. not (x == y)) xs) ≡ length xs = all-else xs (λ m. d.0 (subst (λ z. Member z xs) (sym q.1) m)) in
        let k : length (cond (not (x == y)) (x ∷ filter (λ x. not (x == y)) xs) (filter (λ x. not (x == y)) xs)) ≡ length (filter (λ x. not (x == y)) xs)
        = ap (λ b. length (cond (not b) (x ∷ filter (λ x. not (x == y)) xs) (filter (λ x. not (x == y)) xs))) q.0 in omega (arith, e, k)
    by_tells (inr q) h = let k : length (cond (not (x == y)) (x ∷ filter (λ x. not (x == y)) xs) (filter (λ x. not (x == y)) xs)) ≡ suc (length (filter (λ x. not (x == y)) xs))
        = ap (λ b. length (cond (not b) (x ∷ filter (λ x. not (x == y)) xs) (filter (λ x. not (x == y)) xs))) q.0 in omega (arith, h, k)

pub distinct-within : (xs ys : List ℕ) → Distinct xs → ((x : ℕ) → Member x xs → Member x ys) → length xs ≤ length ys
distinct-within [] [] d k = omega arith
distinct-within (x ∷ xs) [] d k = absurd (k x (inl refl))
distinct-within xs (y ∷ ys) d k = omega (arith, not-this y xs d, distinct-within (filter (λ x. not (x == y)) xs) ys (distinct-filter (λ x. not (x == y)) xs d) others)
  where
    not-y : (x : ℕ) → not (x == y) ≡ true → x ≡ y → ⊥
    not-y x h q = let e : not (x == y) ≡ false = ap not (eq-eqb x y q) in let z : true ≡ false = sym h ∙ e in cc

    of_member : (x : ℕ) → not (x == y) ≡ true → (x ≡ y) ⊎ Member x ys → Member x ys
    of_member x h (inl q) = absurd (not-y x h q)
    of_member x h (inr m) = m

    others : (x : ℕ) → Member x (filter (λ x. not (x == y)) xs) → Member x ys
    others x m = of_member x (each-at (λ x. not (x == y) ≡ true) x (filter (λ x. not (x == y)) xs) (each-passes (λ x. not (x == y)) xs) m) (k x (kept-member (λ x. not (x == y)) x xs m))

-- elements with keys of their own below n
pub few-keys : {A : Type 0} (key : A → ℕ) (n : ℕ) (xs : List A) → Distinct xs → ((x y : A) → Member x xs → Member y xs → key x ≡ key y → x ≡ y) → ((x : A) → Member x xs → key x < n) → length xs ≤ n
few-keys key n xs d one few = omega (arith, length-map xs key, length-range_with_len 0 n, distinct-within (map key xs) (below n) (distinct-map key xs one d) within)
  where
    within : (k : ℕ) → Member k (map key xs) → Member k (below n)
    within k m = let r = member-of-map key k xs m in let p : key r.0 < n = few r.0 r.1 in member-from k 0 n (omega arith) (omega (arith, p, r.2))

-- at most one element
pub one-at-most : {A : Type 0} (xs : List A) → Distinct xs → ((x y : A) → Member x xs → Member y xs → x ≡ y) → length xs ≤ 1
one-at-most [] d k = omega arith
one-at-most (x ∷ []) d k = omega arith
one-at-most (x ∷ y ∷ xs) d k = absurd (d.0 (inl (k x y (inl refl) (inr (inl refl)))))

-- Sums over lists that grow.

pub weigh-snoc : {A : Type 0} (f : A → ℕ) (xs : List A) (x : A) → weigh f (xs ++ x ∷ []) ≡ weigh f xs + f x
weigh-snoc f [] x = omega arith
weigh-snoc f (y ∷ ys) x = let k = weigh-snoc f ys x in omega (arith, k)

pub weigh_more : {A : Type 0} (f : A → ℕ) (xs : List A) (i : ℕ) (d : A) → i < length xs → weigh f (take (i + 1) xs) ≡ weigh f (take i xs) + f (get_or xs i d)
weigh_more f xs i d h = ap (weigh f) (take_more xs i d h) ∙ weigh-snoc f (take i xs) (get_or xs i d)

pub weigh_take : {A : Type 0} (f : A → ℕ) (xs : List A) (i : ℕ) → weigh f (take i xs) ≤ weigh f xs
weigh_take f [] zero = omega arith
weigh_take f [] (suc i) = omega arith
weigh_take f (x ∷ xs) zero = omega arith
weigh_take f (x ∷ xs) (suc i) = let k = weigh_take f xs i in omega (arith, k)

-- of the numbers below another, those that pass a test
pub weigh_below_more : (f : ℕ → ℕ) (test : ℕ → Bool) (n : ℕ) → weigh f (filter test (below (n + 1))) ≡ weigh f (filter test (below n)) + weigh f (cond (test n) (n ∷ []) [])
weigh_below_more f test n = ap (weigh f) (filter_below_more test n) ∙ weigh-append f (filter test (below n)) (cond (test n) (n ∷ []) [])
