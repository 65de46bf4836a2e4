-- Elements of lists, lists whose elements are changed one after the other, and numbers that pass a test.
use Rattle.std.proofs.Common.{◌≡◌, ℕ, zero, suc, ◌+◌, ◌<◌, ◌≤◌, List, [], ◌∷◌, length, map, take, drop, get_or, refl, sym, ap, ◌∙◌, arith, Bool, true, false}
use Rattle.std.specs.Prelude.{cond, filter, if◌then◌else◌, slice_set}
use Rattle.std.specs.List.{AllByRecursion, range_with_len}
use Rattle.std.proofs.lemmas.List.{map-set, set-get_or, get_or-map}
use Rattle.std.proofs.lemmas.Bool.{eq-eqb, ne_eqb}
use Rattle.sl_layout.specs.Net.{place_in}

-- an element is put in place of one that looks the same
pub one-viewed : {A B : Type 0} (g : A → B) (xs : List A) (i : ℕ) (x y : A) → i < length xs → x ≡ get_or xs i x → g y ≡ g x
    → map g (slice_set xs i y) ≡ map g xs
one-viewed g xs i x y h e q = map-set g xs i y ∙ ap (slice_set (map g xs) i) (q ∙ ap g e ∙ sym (get_or-map g xs i x (g x) h)) ∙ set-get_or (map g xs) i (g x)

pub all-after : {A : Type 0} (P : A → Type 0) (xs : List A) (i : ℕ) (y : A) → i < length xs → AllByRecursion P (drop i xs) → AllByRecursion P (drop (suc i) (slice_set xs i y))
all-after P [] i y h all = absurd (omega arith)
all-after P (z ∷ zs) zero y h all = all.1
all-after P (z ∷ zs) (suc i) y h all = all-after P zs i y (omega arith) all

pub all-next : {A : Type 0} (P : A → Type 0) (xs : List A) (i : ℕ) (y : A) → i < length xs → AllByRecursion P (take i xs) → P y → AllByRecursion P (take (suc i) (slice_set xs i y))
all-next P [] i y h all p = absurd (omega arith)
all-next P (z ∷ zs) zero y h all p = (p, tt)
all-next P (z ∷ zs) (suc i) y h all p = (all.0, all-next P zs i y (omega arith) all.1 p)

-- each of the numbers from s on that pass is at least s
least-passing : (p : ℕ → Bool) (s n i : ℕ) → i < length (filter p (range_with_len s n)) → s ≤ get_or (filter p (range_with_len s n)) i 0
least-passing p s zero i h = absurd (omega arith)
least-passing p s (suc n) i h = by_bool (filter p (range_with_len (s + 1) n)) (least-passing p (s + 1) n) (p s) i h
  where
    by_bool : (rest : List ℕ) → ((j : ℕ) → j < length rest → s + 1 ≤ get_or rest j 0) → (b : Bool) (i : ℕ) → i < length (cond b (s ∷ rest) rest) → s ≤ get_or (cond b (s ∷ rest) rest) i 0
    by_bool rest ih true zero h = omega arith
    by_bool rest ih true (suc i) h = omega (arith, ih i (omega arith))
    by_bool rest ih false i h = omega (arith, ih i h)

-- the i-th of the numbers that pass stands at the place i
pub number-place : (p : ℕ → Bool) (s n m i : ℕ) → i < length (filter p (range_with_len s n)) → place_in m (get_or (filter p (range_with_len s n)) i 0) (filter p (range_with_len s n)) ≡ m + i
number-place p s zero m i h = absurd (omega arith)
number-place p s (suc n) m i h = by_bool (filter p (range_with_len (s + 1) n)) (least-passing p (s + 1) n) (number-place p (s + 1) n) (p s) i h
  where
    by_bool : (rest : List ℕ) → ((j : ℕ) → j < length rest → s + 1 ≤ get_or rest j 0) → ((q j : ℕ) → j < length rest → place_in q (get_or rest j 0) rest ≡ q + j) → (b : Bool) (i : ℕ)
        → i < length (cond b (s ∷ rest) rest) → place_in m (get_or (cond b (s ∷ rest) rest) i 0) (cond b (s ∷ rest) rest) ≡ m + i
    by_bool rest up ih true zero h = ap (λ b. if b then m else place_in (suc m) s rest) (eq-eqb s s refl) ∙ omega arith
    by_bool rest up ih true (suc i) h =
        let low = up i (omega arith) in
        ap (λ b. if b then m else place_in (suc m) (get_or rest i 0) rest) (ne_eqb s (get_or rest i 0) (λ e. omega (arith, e, low))) ∙ ih (suc m) i (omega arith) ∙ omega arith
    by_bool rest up ih false i h = ih m i h
