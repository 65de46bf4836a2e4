-- Lemmas on lists, which the crates above use as they use those of std: what holds of each element, members, lists with no element twice; numbers
-- counted up; filters, fronts, maps and joins.
use Rattle.std.proofs.Common.{◌≡◌, ℕ, zero, suc, ◌+◌, ◌<◌, ◌≤◌, List, [], ◌∷◌, ◌++◌, length, refl, sym, ap, subst, ◌∙◌, arith, inl, inr, get_or, map, length-append, ◌*◌, add-one, zero-add, append_assoc}
use Rattle.std.specs.Prelude.{◌⊎◌, cond, true, false, Bool, filter, flat_map, ◌&&◌}
use Rattle.std.specs.List.{All, range_with_len}
use Rattle.std.proofs.lemmas.Bool.{cases_lt}
use Rattle.std.proofs.lemmas.List.{flat_map_more}
use Rattle.std.proofs.lemmas.List.Elements.{filter-append}
use Rattle.sl_parts.specs.Parts.{below}
use Rattle.sl_parts.specs.Lists.{Each, Member}

abbrev pub Distinct : {A : Type 0} → List A → Type 0
Distinct [] = Unit {0}
Distinct (x ∷ xs) = (Member x xs → ⊥) × Distinct xs

pub each-from_all : {A : Type 0} (P : A → Type 0) (xs : List A) → All P xs → Each P xs
each-from_all P [] h = tt
each-from_all P (x ∷ xs) h = (h 0 x (omega arith), each-from_all P xs (λ k d p. h (suc k) d (omega arith)))

pub all-from_each : {A : Type 0} (P : A → Type 0) (xs : List A) → Each P xs → All P xs
all-from_each P [] e k d h = absurd (omega arith)
all-from_each P (x ∷ xs) e zero d h = e.0
all-from_each P (x ∷ xs) e (suc k) d h = all-from_each P xs e.1 k d (omega arith)

pub each-append : {A : Type 0} (P : A → Type 0) (xs ys : List A) → Each P xs → Each P ys → Each P (xs ++ ys)
each-append P [] ys h k = k
each-append P (x ∷ xs) ys h k = (h.0, each-append P xs ys h.1 k)

pub each-map : {A B : Type 0} (P : B → Type 0) (f : A → B) (xs : List A) → Each (λ x. P (f x)) xs → Each P (map f xs)
each-map P f [] h = tt
each-map P f (x ∷ xs) h = (h.0, each-map P f xs h.1)

pub each-imp : {A : Type 0} (P Q : A → Type 0) (xs : List A) → ((x : A) → P x → Q x) → Each P xs → Each Q xs
each-imp P Q [] i h = tt
each-imp P Q (x ∷ xs) i h = (i x h.0, each-imp P Q xs i h.1)

pub each-flat : {A B : Type 0} (P : B → Type 0) (f : A → List B) (xs : List A) → Each (λ x. Each P (f x)) xs → Each P (flat_map f xs)
each-flat P f [] h = tt
each-flat P f (x ∷ xs) h = each-append P (f x) (flat_map f xs) h.0 (each-flat P f xs h.1)

pub each-from : (P : ℕ → Type 0) (start n : ℕ) → ((i : ℕ) → start ≤ i → i < start + n → P i) → Each P (range_with_len start n)
each-from P start zero h = tt
each-from P start (suc n) h = (h start (omega arith) (omega arith), each-from P (start + 1) n (λ i p q. h i (omega arith) (omega arith)))

pub each-below : (P : ℕ → Type 0) (n : ℕ) → ((i : ℕ) → i < n → P i) → Each P (below n)
each-below P n h = each-from P 0 n (λ i p q. h i (omega arith))

pub each-both : {A : Type 0} (P : A → Type 0) (t : A → Bool) (xs : List A) → Each P xs → Each (λ x. P x × (t x ≡ true)) (filter t xs)
each-both P t [] h = tt
each-both P t (x ∷ xs) h = by_bool (each-both P t xs h.1) (t x) refl
  where
    by_bool : Each (λ x. P x × (t x ≡ true)) (filter t xs) → (b : Bool) → t x ≡ b → Each (λ x. P x × (t x ≡ true)) (cond b (x ∷ filter t xs) (filter t xs))
    by_bool ih true q = ((h.0, q), ih)
    by_bool ih false q = ih

pub member-left : {A : Type 0} (x : A) (xs ys : List A) → Member x xs → Member x (xs ++ ys)
member-left x [] ys m = absurd m
member-left x (y ∷ xs) ys (inl q) = inl q
member-left x (y ∷ xs) ys (inr m) = inr (member-left x xs ys m)

pub member-right : {A : Type 0} (x : A) (xs ys : List A) → Member x ys → Member x (xs ++ ys)
member-right x [] ys m = m
member-right x (y ∷ xs) ys m = inr (member-right x xs ys m)

pub member-flat : {A B : Type 0} (f : A → List B) (a : A) (b : B) (xs : List A) → Member a xs → Member b (f a) → Member b (flat_map f xs)
member-flat f a b [] m n = absurd m
member-flat f a b (x ∷ xs) (inl q) n = member-left b (f x) (flat_map f xs) (subst (λ a. Member b (f a)) q n)
member-flat f a b (x ∷ xs) (inr m) n = member-right b (f x) (flat_map f xs) (member-flat f a b xs m n)

pub member-map : {A B : Type 0} (f : A → B) (a : A) (xs : List A) → Member a xs → Member (f a) (map f xs)
member-map f a [] m = absurd m
member-map f a (x ∷ xs) (inl q) = inl (ap f q)
member-map f a (x ∷ xs) (inr m) = inr (member-map f a xs m)

pub member-filter : {A : Type 0} (t : A → Bool) (a : A) (xs : List A) → Member a xs → t a ≡ true → Member a (filter t xs)
member-filter t a [] m h = absurd m
member-filter t a (x ∷ xs) (inl q) h = subst (λ b. Member a (cond b (x ∷ filter t xs) (filter t xs))) (sym (ap t (sym q) ∙ h)) (inl q)
member-filter t a (x ∷ xs) (inr m) h = by_bool (member-filter t a xs m h) (t x)
  where
    by_bool : Member a (filter t xs) → (b : Bool) → Member a (cond b (x ∷ filter t xs) (filter t xs))
    by_bool ih true = inr ih
    by_bool ih false = ih

pub member-from : (i start n : ℕ) → start ≤ i → i < start + n → Member i (range_with_len start n)
member-from i start zero p q = absurd (omega arith)
member-from i start (suc n) p q = by_cases (λ k. member-from i (start + 1) n (omega arith) (omega arith)) (cases_lt start i)
  where
    by_cases : (start < i → Member i (range_with_len (start + 1) n)) → (start < i) ⊎ (i ≤ start) → (i ≡ start) ⊎ Member i (range_with_len (start + 1) n)
    by_cases ih (inl k) = inr (ih k)
    by_cases ih (inr k) = inl (omega arith)

pub each-of : {A : Type 0} (P : A → Type 0) (xs : List A) → ((x : A) → Member x xs → P x) → Each P xs
each-of P [] f = tt
each-of P (x ∷ xs) f = (f x (inl refl), each-of P xs (λ y m. f y (inr m)))

pub each-at : {A : Type 0} (P : A → Type 0) (x : A) (xs : List A) → Each P xs → Member x xs → P x
each-at P x [] e m = absurd m
each-at P x (y ∷ ys) e (inl q) = subst P (sym q) e.0
each-at P x (y ∷ ys) e (inr m) = each-at P x ys e.1 m

pub member-parts : {A : Type 0} (x : A) (xs ys : List A) → Member x (xs ++ ys) → Member x xs ⊎ Member x ys
member-parts x [] ys m = inr m
member-parts x (y ∷ xs) ys (inl q) = inl (inl q)
member-parts x (y ∷ xs) ys (inr m) = by_parts (member-parts x xs ys m)
  where
    by_parts : Member x xs ⊎ Member x ys → ((x ≡ y) ⊎ Member x xs) ⊎ Member x ys
    by_parts (inl k) = inl (inr k)
    by_parts (inr k) = inr k

pub distinct-append : {A : Type 0} (xs ys : List A) → Distinct xs → Distinct ys → ((x : A) → Member x xs → Member x ys → ⊥) → Distinct (xs ++ ys)
distinct-append [] ys d e n = e
distinct-append (x ∷ xs) ys d e n = ((λ m. by_parts (member-parts x xs ys m)), distinct-append xs ys d.1 e (λ z p q. n z (inr p) q))
  where
    by_parts : Member x xs ⊎ Member x ys → ⊥
    by_parts (inl k) = d.0 k
    by_parts (inr k) = n x (inl refl) k

pub kept-member : {A : Type 0} (t : A → Bool) (y : A) (zs : List A) → Member y (filter t zs) → Member y zs
kept-member t y [] m = m
kept-member t y (z ∷ zs) m = of_bool (kept-member t y zs) (t z) m
  where
    of_bool : (Member y (filter t zs) → Member y zs) → (b : Bool) → Member y (cond b (z ∷ filter t zs) (filter t zs)) → (y ≡ z) ⊎ Member y zs
    of_bool ih true (inl q) = inl q
    of_bool ih true (inr m) = inr (ih m)
    of_bool ih false m = inr (ih m)

pub distinct-filter : {A : Type 0} (t : A → Bool) (xs : List A) → Distinct xs → Distinct (filter t xs)
distinct-filter t [] d = tt
distinct-filter t (x ∷ xs) d = by_bool (distinct-filter t xs d.1) (t x)
  where
    by_bool : Distinct (filter t xs) → (b : Bool) → Distinct (cond b (x ∷ filter t xs) (filter t xs))
    by_bool ih true = ((λ m. d.0 (kept-member t x xs m)), ih)
    by_bool ih false = ih

-- lists at numbers that tell them apart
pub member-key : {B : Type 0} (f : ℕ → List B) (key : B → ℕ) (x : ℕ) (b : B) (ys : List ℕ) → ((a : ℕ) → Each (λ b. key b ≡ a) (f a)) → key b ≡ x → Member b (flat_map f ys) → Member x ys
member-key f key x b [] k q m = m
member-key f key x b (y ∷ ys) k q m = by_parts (member-key f key x b ys k q) (member-parts b (f y) (flat_map f ys) m)
  where
    by_parts : (Member b (flat_map f ys) → Member x ys) → Member b (f y) ⊎ Member b (flat_map f ys) → (x ≡ y) ⊎ Member x ys
    by_parts ih (inl n) = inl (sym q ∙ each-at (λ b. key b ≡ y) b (f y) (k y) n)
    by_parts ih (inr n) = inr (ih n)

pub distinct-flat : {B : Type 0} (f : ℕ → List B) (key : B → ℕ) (xs : List ℕ) → Distinct xs → Each (λ a. Distinct (f a)) xs → ((a : ℕ) → Each (λ b. key b ≡ a) (f a)) → Distinct (flat_map f xs)
distinct-flat f key [] d e k = tt
distinct-flat f key (x ∷ xs) d e k = distinct-append (f x) (flat_map f xs) e.0 (distinct-flat f key xs d.1 e.1 k)
    (λ b p q. d.0 (member-key f key x b xs k (each-at (λ b. key b ≡ x) b (f x) (k x) p) q))

pub above : (i s n : ℕ) → Member i (range_with_len s n) → s ≤ i
above i s zero m = absurd m
above i s (suc n) (inl q) = omega arith
above i s (suc n) (inr m) = omega (arith, above i (s + 1) n m)

pub distinct-from : (s n : ℕ) → Distinct (range_with_len s n)
distinct-from s zero = tt
distinct-from s (suc n) = ((λ m. let k : s + 1 ≤ s = above s (s + 1) n m in omega arith), distinct-from (s + 1) n)

-- each element at a place
pub each-index : {A : Type 0} (P : A → Type 0) (xs : List A) (i : ℕ) (d : A) → Each P xs → i < length xs → P (get_or xs i d)
each-index P xs i d e p = all-from_each P xs e i d p

pub inside : {A : Type 0} (ys : List A) (i : ℕ) (d : A) → i < length ys → Member (get_or ys i d) ys
inside [] i d p = absurd (omega arith)
inside (y ∷ ys) zero d p = inl refl
inside (y ∷ ys) (suc i) d p = inr (inside ys i d (omega arith))

-- Loops that count up, and what they make of the numbers.

pub numbers-more : (s n : ℕ) → range_with_len s (suc n) ≡ range_with_len s n ++ (s + n) ∷ []
numbers-more s zero = let e : s ≡ s + 0 = omega arith in ap (λ k. k ∷ []) e
numbers-more s (suc n) = let e : s + 1 + n ≡ s + suc n = omega arith in ap (λ r. s ∷ r) (numbers-more (s + 1) n) ∙ ap (λ k. s ∷ (range_with_len (s + 1) n ++ k ∷ [])) e

pub below_more : (n : ℕ) → below (n + 1) ≡ below n ++ n ∷ []
below_more n = ap below (add-one n) ∙ numbers-more 0 n ∙ ap (λ k. below n ++ k ∷ []) (zero-add n)

pub filter_below_more : (p : ℕ → Bool) (n : ℕ) → filter p (below (n + 1)) ≡ filter p (below n) ++ cond (p n) (n ∷ []) []
filter_below_more p n = ap (filter p) (below_more n) ∙ filter-append p (below n) (n ∷ [])

pub flat_map_below_more : {A : Type 0} (f : ℕ → List A) (n : ℕ) → flat_map f (below (n + 1)) ≡ flat_map f (below n) ++ f n
flat_map_below_more f n = ap (flat_map f) (below_more n) ∙ sym (flat_map_more f [] (below n) n)

-- one step more of a walk over numbers
pub walk_more : {A : Type 0} (f : ℕ → List A) (n : ℕ) (old out new : List A) → new ≡ out ++ f n → out ≡ old ++ flat_map f (below n) → new ≡ old ++ flat_map f (below (n + 1))
walk_more f n old out new e so_far = e ∙ ap (λ xs. xs ++ f n) so_far ∙ append_assoc old (flat_map f (below n)) (f n) ∙ ap (λ xs. old ++ xs) (sym (flat_map_below_more f n))

pub numbers-suc : (s n : ℕ) → range_with_len (suc s) n ≡ map suc (range_with_len s n)
numbers-suc s zero = refl
numbers-suc s (suc n) = let e : suc s + 1 ≡ suc (s + 1) = omega arith in ap (λ r. suc s ∷ r) (ap (λ k. range_with_len k n) e ∙ numbers-suc (s + 1) n)

-- Loops over a list.

-- Filters, fronts, maps and joins.

pub each-passes : {A : Type 0} (t : A → Bool) (xs : List A) → Each (λ x. t x ≡ true) (filter t xs)
each-passes t [] = tt
each-passes t (x ∷ xs) = by_bool (each-passes t xs) (t x) refl
  where
    by_bool : Each (λ x. t x ≡ true) (filter t xs) → (b : Bool) → t x ≡ b → Each (λ x. t x ≡ true) (cond b (x ∷ filter t xs) (filter t xs))
    by_bool ih true q = (q, ih)
    by_bool ih false q = ih

pub each-filter : {A : Type 0} (P : A → Type 0) (t : A → Bool) (xs : List A) → Each P xs → Each P (filter t xs)
each-filter P t [] h = tt
each-filter P t (x ∷ xs) h = by_bool (each-filter P t xs h.1) (t x)
  where
    by_bool : Each P (filter t xs) → (b : Bool) → Each P (cond b (x ∷ filter t xs) (filter t xs))
    by_bool ih true = (h.0, ih)
    by_bool ih false = ih

pub each-front : {A : Type 0} (P : A → Type 0) (xs ys : List A) → Each P (xs ++ ys) → Each P xs
each-front P [] ys h = tt
each-front P (x ∷ xs) ys h = (h.0, each-front P xs ys h.1)

pub each-back : {A : Type 0} (P : A → Type 0) (xs ys : List A) → Each P (xs ++ ys) → Each P ys
each-back P [] ys h = h
each-back P (x ∷ xs) ys h = each-back P xs ys h.1

pub each-both-of : {A : Type 0} (P Q R : A → Type 0) (xs : List A) → ((x : A) → P x → Q x → R x) → Each P xs → Each Q xs → Each R xs
each-both-of P Q R [] f p q = tt
each-both-of P Q R (x ∷ xs) f p q = (f x p.0 q.0, each-both-of P Q R xs f p.1 q.1)

-- Members.

pub member-of-map : {A B : Type 0} (f : A → B) (b : B) (xs : List A) → Member b (map f xs) → (a : A) × Member a xs × (b ≡ f a)
member-of-map f b [] m = absurd m
member-of-map f b (x ∷ xs) (inl q) = (x, inl refl, q)
member-of-map f b (x ∷ xs) (inr m) = let r = member-of-map f b xs m in (r.0, inr r.1, r.2)

pub member-of-flat : {A B : Type 0} (f : A → List B) (b : B) (xs : List A) → Member b (flat_map f xs) → (a : A) × Member a xs × Member b (f a)
member-of-flat f b [] m = absurd m
member-of-flat f b (x ∷ xs) m = by_parts (member-of-flat f b xs) (member-parts b (f x) (flat_map f xs) m)
  where
    by_parts : (Member b (flat_map f xs) → (a : _) × Member a xs × Member b (f a)) → Member b (f x) ⊎ Member b (flat_map f xs) → (a : _) × Member a (x ∷ xs) × Member b (f a)
    by_parts ih (inl n) = (x, inl refl, n)
    by_parts ih (inr n) = let r = ih n in (r.0, inr r.1, r.2)

-- the place of a member
pub place-of-member : {A : Type 0} (x : A) (xs : List A) → Member x xs → (i : ℕ) × (i < length xs) × ((d : A) → get_or xs i d ≡ x)
place-of-member x [] m = absurd m
place-of-member x (y ∷ ys) (inl q) = (0, omega arith, λ d. sym q)
place-of-member x (y ∷ ys) (inr m) = let r = place-of-member x ys m in let p : r.0 < length ys = r.1 in (suc r.0, omega arith, r.2)

-- No element twice.

pub distinct-map : {A B : Type 0} (f : A → B) (xs : List A) → ((x y : A) → Member x xs → Member y xs → f x ≡ f y → x ≡ y) → Distinct xs → Distinct (map f xs)
distinct-map f [] k d = tt
distinct-map f (x ∷ xs) k d = ((λ m. let r = member-of-map f (f x) xs m in d.0 (subst (λ y. Member y xs) (sym (k x r.0 (inl refl) (inr r.1) r.2)) r.1)), distinct-map f xs (λ y z p q. k y z (inr p) (inr q)) d.1)

pub distinct-joined : {A B : Type 0} (f : A → List B) (xs : List A) → ((x y : A) (b : B) → Member x xs → Member y xs → Member b (f x) → Member b (f y) → x ≡ y) → Distinct xs → Each (λ x. Distinct (f x)) xs → Distinct (flat_map f xs)
distinct-joined f [] k d e = tt
distinct-joined f (x ∷ xs) k d e = distinct-append (f x) (flat_map f xs) e.0 (distinct-joined f xs (λ y z b p q. k y z b (inr p) (inr q)) d.1 e.1)
    (λ b p q. let r = member-of-flat f b xs q in d.0 (subst (λ y. Member y xs) (sym (k x r.0 b (inl refl) (inr r.1) p r.2)) r.1))

-- where no element stands twice, equal elements stand at one place
pub one-place : {A : Type 0} (xs : List A) (i j : ℕ) (d : A) → Distinct xs → i < length xs → j < length xs → get_or xs i d ≡ get_or xs j d → i ≡ j
one-place [] i j d e p q h = absurd (omega arith)
one-place (x ∷ xs) zero zero d e p q h = refl
one-place (x ∷ xs) zero (suc j) d e p q h = absurd (e.0 (subst (λ y. Member y xs) (sym h) (inside xs j d (omega arith))))
one-place (x ∷ xs) (suc i) zero d e p q h = absurd (e.0 (subst (λ y. Member y xs) h (inside xs i d (omega arith))))
one-place (x ∷ xs) (suc i) (suc j) d e p q h = ap suc (one-place xs i j d e.1 (omega arith) (omega arith) h)

-- a list of one element
pub only-one : {A : Type 0} (x : A) (xs : List A) → Distinct xs → Member x xs → Each (λ y. y ≡ x) xs → xs ≡ x ∷ []
only-one x [] d m e = absurd m
only-one x (y ∷ []) d m e = ap (λ z. z ∷ []) e.0
only-one x (y ∷ z ∷ zs) d m e = absurd (d.0 (inl (e.0 ∙ sym e.1.0)))

-- a filter of a filter
pub filter-and : {A : Type 0} (p q : A → Bool) (xs : List A) → filter q (filter p xs) ≡ filter (λ x. p x && q x) xs
filter-and p q [] = refl
filter-and p q (x ∷ xs) = elim (p x) as (λ b. filter q (cond b (x ∷ filter p xs) (filter p xs)) ≡ cond (b && q x) (x ∷ filter (λ y. p y && q y) xs) (filter (λ y. p y && q y) xs))
    [ true ↦ ap (λ r. cond (q x) (x ∷ r) r) (filter-and p q xs) | false ↦ filter-and p q xs ]

-- Lengths.

pub length_filter_le : {A : Type 0} (t : A → Bool) (xs : List A) → length (filter t xs) ≤ length xs
length_filter_le t [] = omega arith
length_filter_le t (x ∷ xs) = by_bool (t x) (length_filter_le t xs)
  where
    by_bool : (b : Bool) → length (filter t xs) ≤ length xs → length (cond b (x ∷ filter t xs) (filter t xs)) ≤ suc (length xs)
    by_bool true h = omega arith
    by_bool false h = omega arith

pub length_flat_le : {A B : Type 0} (f : A → List B) (m : ℕ) (xs : List A) → Each (λ x. length (f x) ≤ m) xs → length (flat_map f xs) ≤ m * length xs
length_flat_le f m [] e = omega arith
length_flat_le f m (x ∷ xs) e = omega (arith, e.0, length-append (f x) (flat_map f xs), length_flat_le f m xs e.1)

pub filter-map : {A B : Type 0} (t : B → Bool) (f : A → B) (xs : List A) → filter t (map f xs) ≡ map f (filter (λ x. t (f x)) xs)
filter-map t f [] = refl
filter-map t f (x ∷ xs) = by_bool (t (f x)) (filter-map t f xs)
  where
    by_bool : (b : Bool) → filter t (map f xs) ≡ map f (filter (λ x. t (f x)) xs) → cond b (f x ∷ filter t (map f xs)) (filter t (map f xs)) ≡ map f (cond b (x ∷ filter (λ x. t (f x)) xs) (filter (λ x. t (f x)) xs))
    by_bool true h = ap (λ r. f x ∷ r) h
    by_bool false h = h
