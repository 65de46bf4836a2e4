-- A book that has the entries of all logs, in the order of their numbers, has each log.
use Rattle.std.proofs.Common.{◌≡◌, ℕ, zero, suc, ◌+◌, ◌<◌, ◌≤◌, ◌==◌, Bool, true, false, if◌then◌else◌, List, [], ◌∷◌, ◌++◌, length, map, get_or, sum_by, sym, refl, ap, ap₂, ◌∙◌, subst, arith, append-nil, eq-eqb, eqb-true, le_refl}
use Rattle.std.specs.Prelude.{⊤, ◌&&◌}
use Rattle.std.specs.List.{AllByRecursion}
use Rattle.std.specs.List.Sorted.{IsNonDecreasingBy}
use Rattle.std.proofs.lemmas.Bool.{eqb-false, ne_eqb, and_parts}
use Rattle.std.proofs.lemmas.List.{map-append}
use Rattle.std.proofs.lemmas.List.Elements.{All-from_recursion, recursion_from_All}
use Rattle.std.proofs.lemmas.List.Sums.{sum_by-cons}
use Rattle.std.proofs.lemmas.List.Sorted.{All-permutation, sum_by-IsPermutation}
use Rattle.sl_machine.specs.declared.wiring.Entry.{Entry}
use Rattle.sl_merge.specs.Merging.{entries_by, joined, IsMerge}
use Rattle.sl_merge.proofs.BoundLemmas.{each_so}
use Rattle.sl_merge.proofs.PartLemmas.{part_of, AreBelow}
use Rattle.sl_merge.proofs.RunLemmas.{AreRising}
use Rattle.sl_merge.proofs.PairLemmas.{Pairs, each-append}
use Rattle.sl_merge.proofs.BookLemmas.{by_actor, HasLogs}

-- 1 for the entry that is looked for
abbrev is_it : ℕ × ℕ → ℕ × ℕ → ℕ
is_it x y = if (y.0 == x.0) && (y.1 == x.1) then 1 else 0

abbrev many : ℕ × ℕ → List (ℕ × ℕ) → ℕ
many x [] = 0
many x (y ∷ ys) = is_it x y + many x ys

it_is : (x : ℕ × ℕ) → is_it x x ≡ 1
it_is x = rw (eq-eqb x.0 x.0 refl, eq-eqb x.1 x.1 refl) refl

-- what is counted in a list has what all of the list have
found : (P : ℕ × ℕ → Type 0) (x : ℕ × ℕ) (ys : List (ℕ × ℕ)) → AllByRecursion P ys → 0 < many x ys → P x
found P x [] h c = absurd (omega arith)
found P x (y ∷ ys) h c = found_by ((y.0 == x.0) && (y.1 == x.1)) refl c (found P x ys h.1)
  where
    found_by : (t : Bool) → ((y.0 == x.0) && (y.1 == x.1)) ≡ t → 0 < (if t then 1 else 0) + many x ys → (0 < many x ys → P x) → P x
    found_by true e c rest =
        let both = and_parts (y.0 == x.0) (y.1 == x.1) e in
        let same : y ≡ x = λ i. (eqb-true y.0 x.0 both.0 i, eqb-true y.1 x.1 both.1 i) in
        subst P same h.0
    found_by false e c rest = rest (omega arith)

-- the numbers of a log rise
abbrev pub AreStrict : List (ℕ × ℕ) → Type 0
AreStrict log = Pairs (λ y w. y.0 < w.0) log

AreWeak : List (ℕ × ℕ) → Type 0
AreWeak [] = ⊤
AreWeak (y ∷ ys) = AllByRecursion (λ (w : ℕ × ℕ). y.0 ≤ w.0) ys × AreWeak ys

-- lists in order with the same counts are the same, where one is strictly in order
same_counts : (ys zs : List (ℕ × ℕ)) → AreWeak ys → AreStrict zs → ((x : ℕ × ℕ) → many x ys ≡ many x zs) → ys ≡ zs
unfolding AreWeak
same_counts [] [] w s c = refl
same_counts [] (z ∷ zs) w s c = let one = it_is z in let none = c z in absurd (omega (arith, one, none))
same_counts (y ∷ ys) [] w s c = let one = it_is y in let none = c y in absurd (omega (arith, one, none))
same_counts (y ∷ ys) (z ∷ zs) w s c =
    let z_in : 0 < many z (y ∷ ys) = let one = it_is z in let all = c z in omega (arith, one, all) in
    let y_in : 0 < many y (z ∷ zs) = let one = it_is y in let all = c y in omega (arith, one, all) in
    let low : y.0 ≤ z.0 = found (λ w. y.0 ≤ w.0) z (y ∷ ys) (le_refl y.0, w.0) z_in in
    let high : (y.0 ≤ z.0 → y ≡ z) = found (λ w. w.0 ≤ z.0 → w ≡ z) y (z ∷ zs) ((λ le. refl), each_so (λ w. z.0 < w.0) (λ w. w.0 ≤ z.0 → w ≡ z) (λ w lt le. absurd (omega arith)) zs s.0) y_in in
    let same : y ≡ z = high low in
    ap₂ (λ x xs. x ∷ xs) same (same_counts ys zs w.1 s.1 (λ x. let all = c x in let first : is_it x y ≡ is_it x z = ap (is_it x) same in omega (arith, all, first)))

-- the entries of one actor in the book are counted as in its log
abbrev is_its : ℕ → ℕ × ℕ → Entry → ℕ
is_its a x e = if e.actor == a then is_it x (e.number, e.choice) else 0

count_of : (a : ℕ) (x : ℕ × ℕ) (book : List Entry) → sum_by (is_its a x) book ≡ many x (part_of a (by_actor book))
count_of a x [] = refl
count_of a x (e ∷ book) =
    sum_by-cons (is_its a x) e book
    ∙ (ap (λ (n : ℕ). is_its a x e + n) (count_of a x book)
    ∙ elim (e.actor == a) as (λ (b : Bool). (if b then is_it x (e.number, e.choice) else 0) + many x (part_of a (by_actor book)) ≡ many x (if b then (e.number, e.choice) ∷ part_of a (by_actor book) else part_of a (by_actor book))) [
      | true ↦ refl
      | false ↦ omega arith
    ])

part_of-append : {X : Type 0} (a : ℕ) (xs ys : List (ℕ × X)) → part_of a (xs ++ ys) ≡ part_of a xs ++ part_of a ys
part_of-append a [] ys = refl
part_of-append a (x ∷ xs) ys =
    elim (x.0 == a) as (λ (b : Bool). (if b then x.1 ∷ part_of a (xs ++ ys) else part_of a (xs ++ ys)) ≡ (if b then x.1 ∷ part_of a xs else part_of a xs) ++ part_of a ys) [
      | true ↦ ap (λ t. x.1 ∷ t) (part_of-append a xs ys)
      | false ↦ part_of-append a xs ys
    ]

own_entries : (n : ℕ) (log : List (ℕ × ℕ)) → part_of n (by_actor (entries_by n log)) ≡ log
own_entries n [] = refl
own_entries n (p ∷ log) = rw (eq-eqb n n refl) (ap (λ t. p ∷ t) (own_entries n log))

other_entries : (n a : ℕ) (log : List (ℕ × ℕ)) → (n == a) ≡ false → part_of a (by_actor (entries_by n log)) ≡ []
other_entries n a [] e = refl
other_entries n a (p ∷ log) e = rw e (other_entries n a log e)

parts-append : (a n : ℕ) (logs : ℕ → List (ℕ × ℕ)) → part_of a (by_actor (joined (suc n) logs)) ≡ part_of a (by_actor (joined n logs)) ++ part_of a (by_actor (entries_by n (logs n)))
parts-append a n logs =
    ap (part_of a) (map-append (λ (e : Entry). (e.actor, (e.number, e.choice))) (joined n logs) (entries_by n (logs n))) ∙ part_of-append a (by_actor (joined n logs)) (by_actor (entries_by n (logs n)))

none_above : (n a : ℕ) (logs : ℕ → List (ℕ × ℕ)) → n ≤ a → part_of a (by_actor (joined n logs)) ≡ []
none_above zero a logs le = refl
none_above (suc n) a logs le = parts-append a n logs ∙ ap₂ (λ s t. s ++ t) (none_above n a logs (omega arith)) (other_entries n a (logs n) (ne_eqb n a (λ e. omega arith)))

part_below : (n a : ℕ) (logs : ℕ → List (ℕ × ℕ)) → a < n → part_of a (by_actor (joined n logs)) ≡ logs a
part_below zero a logs low = absurd (omega arith)
part_below (suc n) a logs low =
    parts-append a n logs
    ∙ part_by (n == a) refl (λ lt. part_below n a logs lt)
  where
    part_by : (t : Bool) → (n == a) ≡ t → (a < n → part_of a (by_actor (joined n logs)) ≡ logs a) → part_of a (by_actor (joined n logs)) ++ part_of a (by_actor (entries_by n (logs n))) ≡ logs a
    part_by true e rest =
        let same : n ≡ a = eqb-true n a e in
        ap₂ (λ s t. s ++ t) (none_above n a logs (omega arith)) (subst (λ (j : ℕ). part_of j (by_actor (entries_by n (logs n))) ≡ logs j) same (own_entries n (logs n)))
    part_by false e rest =
        let other : n ≡ a → ⊥ = eqb-false n a e in
        let lt : a < n = grind arith in
        ap₂ (λ s t. s ++ t) (rest lt) (other_entries n a (logs n) e) ∙ append-nil (logs a)

entries_at : (n m : ℕ) (log : List (ℕ × ℕ)) → n < m → AllByRecursion (λ (e : Entry). e.actor < m) (entries_by n log)
entries_at n m [] lt = tt
entries_at n m (p ∷ log) lt = (lt, entries_at n m log lt)

pub all_below : (n m : ℕ) (logs : ℕ → List (ℕ × ℕ)) → n ≤ m → AllByRecursion (λ (e : Entry). e.actor < m) (joined n logs)
all_below zero m logs le = tt
all_below (suc n) m logs le = each-append (λ e. e.actor < m) (joined n logs) (entries_by n (logs n)) (all_below n m logs (omega arith)) (entries_at n m (logs n) (omega arith))

below_from : (n : ℕ) (book : List Entry) → AllByRecursion (λ (e : Entry). e.actor < n) book → AreBelow n (by_actor book)
below_from n [] h = tt
below_from n (e ∷ book) h = (h.0, below_from n book h.1)

-- a part of a book in order is in order
weak_from : (a : ℕ) (book : List Entry) → AreRising (map (λ e. e.number) book) → AreWeak (part_of a (by_actor book))
unfolding AreWeak
weak_from a [] h = tt
weak_from a (e ∷ book) h =
    elim (e.actor == a) as (λ (b : Bool). AreWeak (if b then (e.number, e.choice) ∷ part_of a (by_actor book) else part_of a (by_actor book))) [
      | true ↦ (later book h.0, weak_from a book h.1)
      | false ↦ weak_from a book h.1
    ]
  where
    later : (es : List Entry) → AllByRecursion (λ (m : ℕ). e.number ≤ m) (map (λ e. e.number) es) → AllByRecursion (λ (w : ℕ × ℕ). e.number ≤ w.0) (part_of a (by_actor es))
    later [] k = tt
    later (f ∷ es) k =
        elim (f.actor == a) as (λ (b : Bool). AllByRecursion (λ (w : ℕ × ℕ). e.number ≤ w.0) (if b then (f.number, f.choice) ∷ part_of a (by_actor es) else part_of a (by_actor es))) [
          | true ↦ (k.0, later es k.1)
          | false ↦ later es k.1
        ]

-- the numbers of a list, by place and by recursion
rising_from : (book : List Entry) → IsNonDecreasingBy (λ e. e.number) book → AreRising (map (λ e. e.number) book)
rising_from [] h = tt
rising_from (e ∷ book) h =
    (first book (λ j d lt. h 0 (suc j) d (omega arith) (omega arith)), rising_from book (λ i j d le lt. h (suc i) (suc j) d (omega arith) (omega arith)))
  where
    first : (es : List Entry) → ((j : ℕ) (d : Entry) → j < length es → e.number ≤ (get_or es j d).number) → AllByRecursion (λ (m : ℕ). e.number ≤ m) (map (λ e. e.number) es)
    first [] k = tt
    first (f ∷ es) k = (k 0 f (omega arith), first es (λ j d lt. k (suc j) d (omega arith)))

-- a merge of logs whose numbers rise has each log
pub merge_has_logs : (n : ℕ) (logs : ℕ → List (ℕ × ℕ)) (book : List Entry) → ((a : ℕ) → a < n → AreStrict (logs a)) → IsMerge (joined n logs) book → HasLogs n logs book
merge_has_logs n logs book strict m =
    let up : AreRising (map (λ e. e.number) book) = rising_from book m.rising in
    let below : AllByRecursion (λ (e : Entry). e.actor < n) book =
    recursion_from_All (λ (e : Entry). e.actor < n) book (All-permutation (λ (e : Entry). e.actor < n) (joined n logs) book m.same_entries (All-from_recursion (λ (e : Entry). e.actor < n) (joined n logs) (all_below n n logs (le_refl n)))) in
    record {
      below = below_from n book below;
      parts = λ a low.
          same_counts (part_of a (by_actor book)) (logs a) (weak_from a book up) (strict a low)
          (λ x. sym (count_of a x book) ∙ (sum_by-IsPermutation (is_its a x) (joined n logs) book m.same_entries ∙ (count_of a x (joined n logs) ∙ ap (many x) (part_below n a logs low))));
      ordered = up;
    }
