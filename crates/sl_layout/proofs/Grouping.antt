-- Steps of grouping places by their keys, and of listing the units.
use Rattle.std.proofs.Common.{◌≡◌, ◌≢◌, ℕ, zero, suc, ◌+◌, ◌-◌, ◌<◌, ◌≤◌, List, [], ◌∷◌, ◌++◌, length, refl, sym, ap, ◌∙◌, arith, get_or, set, map, Bool, true, false, inl, inr, append-nil, zero-add}
use Rattle.std.specs.Prelude.{◌⊎◌, cond, filter, ◌==◌, if◌then◌else◌, slice_index}
use Rattle.std.proofs.lemmas.Bool.Decides.{eqb_tells}
use Rattle.std.proofs.lemmas.Bool.{cases_lt, eq-eqb}
use Rattle.std.proofs.lemmas.List.FromFn.{fill_by_all, get_or-map-range_with_len, length-map-range_with_len, length-range_with_len}
use Rattle.std.proofs.lemmas.List.{length-set, get_or-set_same, get_or-set_other, map-append, get_or_default}
use Rattle.std.specs.List.{range_with_len, All}
use Rattle.sl_parts.specs.Parts.{below}
use Rattle.sl_layout.specs.Net.{place_in, Net, is_unit, nobody, same_sort, link_of, link_at, unit_place}
use Rattle.sl_layout.specs.Groups.{grouped, places_in_groups}
use Rattle.sl_parts.proofs.Lists.{filter_below_more, each-imp, each-both, each-below, all-from_each}
use Rattle.std.proofs.lemmas.List.Sums.{length-filter, count_by-le-length}
use Rattle.sl_layout.specs.declared.actor.ActorId.{ActorId}
use Rattle.sl_layout.specs.declared.actor.Sort.{Sort}
use Rattle.sl_layout.specs.Wiring.{sender_by}

-- what a list made of the numbers has at one of them
pub list_at : {A : Type 0} (f : ℕ → List A) (lists : List (List A)) (n i : ℕ) → lists ≡ map f (below n) → i < n → get_or lists i [] ≡ f i
list_at f lists n i e h = ap (λ xs. get_or xs i []) e ∙ get_or-map-range_with_len f 0 n i _ [] h (zero-add i)

-- two lists made of the numbers are one where they agree at each number
pub map_same : {A : Type 0} (f g : ℕ → A) (n : ℕ) → ((i : ℕ) → i < n → f i ≡ g i) → map f (below n) ≡ map g (below n)
map_same f g n h = fill_by_all g (map f (below n)) n (g 0) (length-map-range_with_len f 0 n) (λ k l. get_or-map-range_with_len f 0 n k _ (g 0) l (zero-add k) ∙ h k l)

-- of the numbers below another, those that pass a test
pub few_filter : (t : ℕ → Bool) (n : ℕ) → length (filter t (below n)) ≤ n
few_filter t n = omega (arith, length-filter t (below n), count_by-le-length t (below n), length-range_with_len 0 n)

pub low_filter : (t : ℕ → Bool) (n : ℕ) → All (λ i. i < n) (filter t (below n))
low_filter t n = all-from_each (λ i. i < n) (filter t (below n)) (each-imp (λ i. (i < n) × (t i ≡ true)) (λ i. i < n) (filter t (below n)) (λ i h. h.0) (each-both (λ i. i < n) t (below n) (each-below (λ i. i < n) n (λ i h. h))))

-- a number more is one of them where it passes
pub filter_noted : (t : ℕ → Bool) (n : ℕ) (b : Bool) → b ≡ t n → filter t (below (n + 1)) ≡ filter t (below n) ++ cond b (n ∷ []) []
filter_noted t n b e = filter_below_more t n ∙ ap (λ b. filter t (below n) ++ cond b (n ∷ []) []) (sym e)

-- a write at one place, where the other places stay
set_map : {A : Type 0} (f g : ℕ → A) (v : A) (n i : ℕ) → g i ≡ v → ((k : ℕ) → k ≢ i → g k ≡ f k) → set (map f (below n)) i v ≡ map g (below n)
set_map f g v n i q h = fill_by_all g (set (map f (below n)) i v) n v (length-set (map f (below n)) i v ∙ size) (λ k l. by_tells k l (eqb_tells k i))
  where
    size : length (map f (below n)) ≡ n
    size = length-map-range_with_len f 0 n

    by_tells : (k : ℕ) → k < n → (((k == i) ≡ true) × (k ≡ i)) ⊎ (((k == i) ≡ false) × (k ≢ i)) → get_or (set (map f (below n)) i v) k v ≡ g k
    by_tells k l (inl e) = let is : k ≡ i = e.1 in ap (λ j. get_or (set (map f (below n)) i v) j v) is ∙ get_or-set_same (map f (below n)) i v v (omega (arith, size)) ∙ sym q ∙ ap g (sym is)
    by_tells k l (inr e) = get_or-set_other (map f (below n)) i k v v e.1 ∙ get_or-map-range_with_len f 0 n k _ v l (zero-add k) ∙ sym (h k e.1)

pub group_grows : (keys : List ℕ) (count i : ℕ) → slice_index keys i < count
    → set (map (grouped keys i) (below count)) (slice_index keys i) (get_or (map (grouped keys i) (below count)) (slice_index keys i) [] ++ i ∷ []) ≡ map (grouped keys (i + 1)) (below count)
group_grows keys count i h =
    ap (λ xs. set (map (grouped keys i) (below count)) (slice_index keys i) (xs ++ i ∷ [])) (get_or-map-range_with_len (grouped keys i) 0 count (slice_index keys i) _ [] h (zero-add (slice_index keys i)))
    ∙ set_map (grouped keys i) (grouped keys (i + 1)) (grouped keys i (slice_index keys i) ++ i ∷ []) count (slice_index keys i)
    (more (slice_index keys i) true (eq-eqb (slice_index keys i) (slice_index keys i) refl))
    (λ k p. more k false (other k p (eqb_tells (slice_index keys i) k)) ∙ append-nil (grouped keys i k))
  where
    more : (k : ℕ) (b : Bool) → (slice_index keys i == k) ≡ b → grouped keys (i + 1) k ≡ grouped keys i k ++ cond b (i ∷ []) []
    more k b q = filter_below_more (λ j. slice_index keys j == k) i ∙ ap (λ b. grouped keys i k ++ cond b (i ∷ []) []) q

    other : (k : ℕ) → k ≢ slice_index keys i → (((slice_index keys i == k) ≡ true) × (slice_index keys i ≡ k)) ⊎ (((slice_index keys i == k) ≡ false) × (slice_index keys i ≢ k)) → (slice_index keys i == k) ≡ false
    other k p (inl e) = absurd (p (sym e.1))
    other k p (inr e) = e.0

-- a number's place among the numbers that pass is how many pass before it
place-from : (p : ℕ → Bool) (n s c l : ℕ) → s ≤ l → l < s + c → p l ≡ true → place_in n l (filter p (range_with_len s c)) ≡ n + length (filter p (range_with_len s (l - s)))
place-from p n s zero l a b q = absurd (omega arith)
place-from p n s (suc c) l a b q = by_order (λ j k. place-from p (suc n) (s + 1) c l j k q) (λ j k. place-from p n (s + 1) c l j k q) (cases_lt s l)
  where
    here : s ≡ l → place_in n l (filter p (range_with_len s (suc c))) ≡ n + length (filter p (range_with_len s (l - s)))
    here e =
        let first : p s ≡ true = ap p e ∙ q in
        let none : l - s ≡ 0 = omega arith in
        ap (λ b. place_in n l (cond b (s ∷ filter p (range_with_len (s + 1) c)) (filter p (range_with_len (s + 1) c)))) first
        ∙ ap (λ b. if b then n else place_in (suc n) l (filter p (range_with_len (s + 1) c))) (eq-eqb s l e)
        ∙ sym (ap (λ k. n + length (filter p (range_with_len s k))) none ∙ omega arith)

    later : (s + 1 ≤ l → l < s + 1 + c → place_in (suc n) l (filter p (range_with_len (s + 1) c)) ≡ suc n + length (filter p (range_with_len (s + 1) (l - (s + 1)))))
        → (s + 1 ≤ l → l < s + 1 + c → place_in n l (filter p (range_with_len (s + 1) c)) ≡ n + length (filter p (range_with_len (s + 1) (l - (s + 1))))) → s < l → place_in n l (filter p (range_with_len s (suc c))) ≡ n + length (filter p (range_with_len s (l - s)))
    later ih_in ih_out k = by_bool (p s) refl
      where
        rest : l - s ≡ suc (l - (s + 1))
        rest = omega arith

        apart : (s == l) ≡ false
        apart = by_tells (eqb_tells s l)
          where
            by_tells : (((s == l) ≡ true) × (s ≡ l)) ⊎ (((s == l) ≡ false) × (s ≢ l)) → (s == l) ≡ false
            by_tells (inl e) = absurd (omega arith)
            by_tells (inr e) = e.0

        by_bool : (b : Bool) → p s ≡ b → place_in n l (filter p (range_with_len s (suc c))) ≡ n + length (filter p (range_with_len s (l - s)))
        by_bool true z =
            ap (λ b. place_in n l (cond b (s ∷ filter p (range_with_len (s + 1) c)) (filter p (range_with_len (s + 1) c)))) z
            ∙ ap (λ b. if b then n else place_in (suc n) l (filter p (range_with_len (s + 1) c))) apart
            ∙ ih_in (omega arith) (omega arith)
            ∙ sym (ap (λ k. n + length (filter p (range_with_len s k))) rest ∙ ap (λ b. n + length (cond b (s ∷ filter p (range_with_len (s + 1) (l - (s + 1)))) (filter p (range_with_len (s + 1) (l - (s + 1)))))) z ∙ omega arith)
        by_bool false z =
            ap (λ b. place_in n l (cond b (s ∷ filter p (range_with_len (s + 1) c)) (filter p (range_with_len (s + 1) c)))) z
            ∙ ih_out (omega arith) (omega arith)
            ∙ sym (ap (λ k. n + length (filter p (range_with_len s k))) rest ∙ ap (λ b. n + length (cond b (s ∷ filter p (range_with_len (s + 1) (l - (s + 1)))) (filter p (range_with_len (s + 1) (l - (s + 1)))))) z)

    by_order : (s + 1 ≤ l → l < s + 1 + c → place_in (suc n) l (filter p (range_with_len (s + 1) c)) ≡ suc n + length (filter p (range_with_len (s + 1) (l - (s + 1)))))
        → (s + 1 ≤ l → l < s + 1 + c → place_in n l (filter p (range_with_len (s + 1) c)) ≡ n + length (filter p (range_with_len (s + 1) (l - (s + 1))))) → (s < l) ⊎ (l ≤ s) → place_in n l (filter p (range_with_len s (suc c))) ≡ n + length (filter p (range_with_len s (l - s)))
    by_order ih_in ih_out (inl k) = later ih_in ih_out k
    by_order ih_in ih_out (inr k) = here (omega arith)

pub place_below : (p : ℕ → Bool) (c l : ℕ) → l < c → p l ≡ true → place_in 0 l (filter p (below c)) ≡ length (filter p (below l))
place_below p c l h q = let z : l - 0 ≡ l = omega arith in place-from p 0 0 c l (omega arith) (omega arith) q ∙ ap (λ k. 0 + length (filter p (below k))) z ∙ omega arith

-- how many of its key stand before a place
abbrev pub before_in_group : List ℕ → ℕ → ℕ
before_in_group keys i = length (grouped keys i (slice_index keys i))

pub places-are : (keys : List ℕ) → map (before_in_group keys) (below (length keys)) ≡ map (places_in_groups keys) (below (length keys))
places-are keys = map_same (before_in_group keys) (places_in_groups keys) (length keys)
    (λ i h. sym (place_below (λ j. slice_index keys j == slice_index keys i) (length keys) i h (eq-eqb (slice_index keys i) (slice_index keys i) refl)))

pub few_in_group : (keys : List ℕ) (n key : ℕ) → length (grouped keys n key) ≤ n
few_in_group keys n key = few_filter (λ i. slice_index keys i == key) n

-- Steps of listing the units.

abbrev test : List ActorId → ℕ → Bool
test actors a = is_unit (get_or actors a nobody)

pub number_noted : (actors : List ActorId) (i : ℕ) (d : ActorId) → i < length actors
    → filter (λ a. is_unit (get_or actors a nobody)) (below i) ++ cond (is_unit (get_or actors i d)) (i ∷ []) [] ≡ filter (λ a. is_unit (get_or actors a nobody)) (below (i + 1))
number_noted actors i d h = ap (λ x. filter (test actors) (below i) ++ cond (is_unit x) (i ∷ []) []) (get_or_default actors i d nobody h) ∙ sym (filter_below_more (test actors) i)

pub id_noted : (actors : List ActorId) (numbers : List ℕ) (i : ℕ) (d : ActorId) → i < length actors
    → map (λ a. get_or actors a nobody) numbers ++ cond (is_unit (get_or actors i d)) (get_or actors i d ∷ []) []
    ≡ map (λ a. get_or actors a nobody) (numbers ++ cond (is_unit (get_or actors i d)) (i ∷ []) [])
id_noted actors numbers i d h =
    ap (λ xs. map (λ a. get_or actors a nobody) numbers ++ xs) (by_bool (is_unit (get_or actors i d)))
    ∙ sym (map-append (λ a. get_or actors a nobody) numbers (cond (is_unit (get_or actors i d)) (i ∷ []) []))
  where
    by_bool : (b : Bool) → cond b (get_or actors i d ∷ []) [] ≡ map (λ a. get_or actors a nobody) (cond b (i ∷ []) [])
    by_bool true = ap (λ x. x ∷ []) (get_or_default actors i d nobody h)
    by_bool false = refl

abbrev is_of : Net → ℕ → Sort → ℕ → Bool
is_of net u s c = same_sort (link_of net (link_at net u c)).sort s

pub sender_noted : (net : Net) (u c l : ℕ) (s : Sort) → l ≡ link_at net u c
    → map (sender_by net u) (filter (λ c. same_sort (link_of net (link_at net u c)).sort s) (below c)) ++ cond (same_sort (link_of net l).sort s) (unit_place net (link_of net l).from ∷ []) []
    ≡ map (sender_by net u) (filter (λ c. same_sort (link_of net (link_at net u c)).sort s) (below (c + 1)))
sender_noted net u c l s q =
    ap (λ l. map (sender_by net u) (filter (is_of net u s) (below c)) ++ cond (same_sort (link_of net l).sort s) (unit_place net (link_of net l).from ∷ []) []) q
    ∙ ap (λ xs. map (sender_by net u) (filter (is_of net u s) (below c)) ++ xs) (by_bool (is_of net u s c))
    ∙ sym (ap (map (sender_by net u)) (filter_below_more (is_of net u s) c) ∙ map-append (sender_by net u) (filter (is_of net u s) (below c)) (cond (is_of net u s c) (c ∷ []) []))
  where
    by_bool : (b : Bool) → cond b (sender_by net u c ∷ []) [] ≡ map (sender_by net u) (cond b (c ∷ []) [])
    by_bool true = refl
    by_bool false = refl
