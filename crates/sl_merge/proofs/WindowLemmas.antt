-- The entries of logs, number by number: they are the same entries, and they ascend.
use Rattle.std.proofs.Common.{◌≡◌, ℕ, zero, suc, ◌<◌, ◌≤◌, ◌==◌, Bool, true, false, List, [], ◌∷◌, ◌++◌, length, get_or, inl, inr, map, refl, subst, arith, le_refl, eqb-true}
use Rattle.std.specs.Prelude.{cond}
use Rattle.std.specs.List.{All, AllByRecursion}
use Rattle.std.specs.List.Sorted.{IsPermutation, IsNonDecreasingBy}
use Rattle.std.proofs.lemmas.Bool.{cases_lt, eqb-false, ne_eqb}
use Rattle.std.proofs.lemmas.List.{get_or_default}
use Rattle.std.proofs.lemmas.List.Elements.{All-map, filter_passes, recursion_from_All}
use Rattle.std.proofs.lemmas.List.Sorted.{IsPermutation-refl, IsPermutation-cons, IsPermutation-append_left, IsPermutation-middle, IsPermutation-sym, IsPermutation-trans}
use Rattle.sl_machine.specs.declared.wiring.Entry.{Entry}
use Rattle.sl_merge.specs.Merging.{IsMerge, IsBefore, IsAscending, IsLog, entries_by, joined, all_entries}
use Rattle.sl_merge.specs.Windows.{numbered, up_to}
use Rattle.sl_merge.proofs.BoundLemmas.{each_so}
use Rattle.sl_merge.proofs.PairLemmas.{Pairs, pairs-append, by_place, from_places, each-append}
use Rattle.sl_merge.proofs.CountLemmas.{AreStrict}
use Rattle.sl_merge.proofs.LogLemmas.{Follows, pairs}

-- logs whose numbers rise, by place and by recursion
pub are_logs : (logs : List (List (ℕ × ℕ))) → ((a : ℕ) → a < length logs → AreStrict (get_or logs a [])) → All IsLog logs
are_logs logs h k e low i j d lt here =
    by_place (λ y w. y.0 < w.0) (get_or logs k e) i j d (subst AreStrict (get_or_default logs k [] e low) (h k low)) lt here

pub all_strict : (logs : List (List (ℕ × ℕ))) → All IsLog logs → (a : ℕ) → a < length logs → AreStrict (get_or logs a [])
all_strict logs h a low = from_places (λ y w. y.0 < w.0) (get_or logs a []) (h a [] low)

of_number : (m : ℕ) (es : List Entry) → AllByRecursion (λ (e : Entry). e.number ≡ m) (numbered m es)
of_number m es =
    each_so (λ e. (e.number == m) ≡ true) (λ e. e.number ≡ m) (λ e is. eqb-true e.number m is) (numbered m es) (recursion_from_All (λ e. (e.number == m) ≡ true) (numbered m es) (filter_passes (λ e. e.number == m) es))

below : (n m : ℕ) (es : List Entry) → n ≤ m → AllByRecursion (λ (e : Entry). e.number < m) (up_to n es)
below zero m es le = tt
below (suc n) m es le =
    each-append (λ e. e.number < m) (up_to n es) (numbered n es) (below n m es (omega arith)) (each_so (λ e. e.number ≡ n) (λ e. e.number < m) (λ e is. omega arith) (numbered n es) (of_number n es))

earlier : (e f : Entry) → Follows e f → e.number ≡ f.number → e.actor < f.actor
earlier e f h same =
    elim (cases_lt e.actor f.actor) [
      | inl less ↦ less
      | inr high ↦
          let le : e.actor ≤ f.actor = h.0 in
          let next : e.number < f.number = h.1 (omega arith) in
          absurd (omega arith)
    ]

-- of one number an earlier entry is of an earlier actor
later : (m : ℕ) (e : Entry) (es : List Entry) → e.number ≡ m → AllByRecursion (Follows e) es → AllByRecursion (IsBefore e) (numbered m es)
later m e [] is h = tt
later m e (f ∷ es) is h = by (f.number == m) refl (later m e es is h.1)
  where
    by : (t : Bool) → (f.number == m) ≡ t → AllByRecursion (IsBefore e) (numbered m es) → AllByRecursion (IsBefore e) (cond t (f ∷ numbered m es) (numbered m es))
    by true same rest =
        let number : f.number ≡ m = eqb-true f.number m same in
        (inr (omega arith, earlier e f h.0 (omega arith)), rest)
    by false other rest = rest

numbered_pairs : (m : ℕ) (es : List Entry) → Pairs Follows es → Pairs IsBefore (numbered m es)
numbered_pairs m [] h = tt
numbered_pairs m (e ∷ es) h = by (e.number == m) refl (numbered_pairs m es h.1)
  where
    by : (t : Bool) → (e.number == m) ≡ t → Pairs IsBefore (numbered m es) → Pairs IsBefore (cond t (e ∷ numbered m es) (numbered m es))
    by true same rest = (later m e es (eqb-true e.number m same) h.0, rest)
    by false other rest = rest

up_to_pairs : (n : ℕ) (es : List Entry) → Pairs Follows es → Pairs IsBefore (up_to n es)
up_to_pairs zero es h = tt
up_to_pairs (suc n) es h =
    pairs-append IsBefore (up_to n es) (numbered n es) (up_to_pairs n es h) (numbered_pairs n es h)
    (each_so (λ e. e.number < n) (λ e. AllByRecursion (IsBefore e) (numbered n es))
    (λ e low. each_so (λ f. f.number ≡ n) (IsBefore e) (λ f is. inl (omega arith)) (numbered n es) (of_number n es))
    (up_to n es) (below n n es (le_refl n)))

-- an entry more is left out by the numbers below its own, and comes first among those of its number
left_out : (n : ℕ) (e : Entry) (es : List Entry) → n ≤ e.number → up_to n (e ∷ es) ≡ up_to n es
left_out zero e es le = refl
left_out (suc n) e es le = rw (ne_eqb e.number n (λ is. omega arith), left_out n e es (omega arith)) refl

one_more : (n : ℕ) (e : Entry) (es : List Entry) → e.number < n → IsPermutation (e ∷ up_to n es) (up_to n (e ∷ es))
one_more zero e es low = absurd (omega arith)
one_more (suc n) e es low = by (e.number == n) refl (one_more n e es)
  where
    by : (t : Bool) → (e.number == n) ≡ t → (e.number < n → IsPermutation (e ∷ up_to n es) (up_to n (e ∷ es)))
        → IsPermutation (e ∷ (up_to n es ++ numbered n es)) (up_to n (e ∷ es) ++ cond t (e ∷ numbered n es) (numbered n es))
    by true same rest =
        let number : e.number ≡ n = eqb-true e.number n same in
        rw (left_out n e es (omega arith)) (IsPermutation-sym (up_to n es ++ e ∷ numbered n es) (e ∷ (up_to n es ++ numbered n es)) (IsPermutation-middle (up_to n es) e (numbered n es)))
    by false other rest =
        let number : (e.number ≡ n → ⊥) = eqb-false e.number n other in
        let lt : e.number < n = grind arith in
        IsPermutation-append_left (numbered n es) (e ∷ up_to n es) (up_to n (e ∷ es)) (rest lt)

none : (n : ℕ) → up_to n [] ≡ []
none zero = refl
none (suc n) = rw (none n) refl

same_entries : (n : ℕ) (es : List Entry) → AllByRecursion (λ (e : Entry). e.number < n) es → IsPermutation es (up_to n es)
same_entries n [] h = rw (none n) (IsPermutation-refl [])
same_entries n (e ∷ es) h =
    IsPermutation-trans (e ∷ es) (e ∷ up_to n es) (up_to n (e ∷ es)) (IsPermutation-cons e es (up_to n es) (same_entries n es h.1)) (one_more n e es h.0)

numbers_below : (n m : ℕ) (logs : ℕ → List (ℕ × ℕ)) → ((a : ℕ) → a < n → AllByRecursion (λ (p : ℕ × ℕ). p.0 < m) (logs a)) → AllByRecursion (λ (e : Entry). e.number < m) (joined n logs)
numbers_below zero m logs h = tt
numbers_below (suc n) m logs h = each-append (λ e. e.number < m) (joined n logs) (entries_by n (logs n)) (numbers_below n m logs (λ a low. h a (omega arith))) (entries_below (logs n) (h n (omega arith)))
  where
    entries_below : (log : List (ℕ × ℕ)) → AllByRecursion (λ (p : ℕ × ℕ). p.0 < m) log → AllByRecursion (λ (e : Entry). e.number < m) (entries_by n log)
    entries_below [] k = tt
    entries_below (p ∷ log) k = (k.0, entries_below log k.1)

-- logs whose numbers rise and are below m, number by number
module _ (n m : ℕ) (logs : ℕ → List (ℕ × ℕ)) (strict : (a : ℕ) → a < n → AreStrict (logs a)) where
  pub ascending : IsAscending (up_to m (joined n logs))
  ascending i j d lt low = by_place IsBefore (up_to m (joined n logs)) i j d (up_to_pairs m (joined n logs) (pairs n logs strict)) lt low

  rising : IsNonDecreasingBy (λ e. e.number) (up_to m (joined n logs))
  rising i j d le low =
      elim (cases_lt i j) [
        | inl lt ↦ elim (ascending i j d lt low) [ inl less ↦ omega arith | inr tie ↦ omega arith ]
        | inr high ↦
            let same : i ≡ j = omega arith in
            subst (λ (k : ℕ). (get_or (up_to m (joined n logs)) i d).number ≤ (get_or (up_to m (joined n logs)) k d).number) same (le_refl _)
      ]

  pub merged_by_number : ((a : ℕ) → a < n → AllByRecursion (λ (p : ℕ × ℕ). p.0 < m) (logs a)) → IsMerge (joined n logs) (up_to m (joined n logs))
  merged_by_number h = record { same_entries = same_entries m (joined n logs) (numbers_below n m logs h); rising = rising }

module _ {V : Type 0} (items : V → List (ℕ × ℕ)) (logs : List V) (m last : ℕ) (are : All IsLog (map items logs)) where
  pub logs_ascend : IsAscending (up_to m (all_entries (map items logs)))
  logs_ascend = ascending (length (map items logs)) m (λ a. get_or (map items logs) a []) (all_strict (map items logs) are)

  pub logs_merged : All (λ log. All (λ p. p.0 ≤ last) (items log)) logs → last < m → IsMerge (all_entries (map items logs)) (up_to m (all_entries (map items logs)))
  logs_merged low lt =
      merged_by_number (length (map items logs)) m (λ a. get_or (map items logs) a []) (all_strict (map items logs) are) (λ a there.
      recursion_from_All (λ (p : ℕ × ℕ). p.0 < m) (get_or (map items logs) a []) (All-map (λ log. All (λ (p : ℕ × ℕ). p.0 < m) log) items logs (λ k v here i d within. omega (arith, low k v here i d within)) a [] there))
