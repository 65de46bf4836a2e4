-- The entries of logs, one log after the other: actors in order, and the numbers of each rise.
use Rattle.std.proofs.Common.{◌≡◌, ℕ, zero, suc, ◌<◌, ◌≤◌, List, [], ◌∷◌, get_or, inl, inr, arith, le_refl, refl, subst}
use Rattle.std.specs.List.{AllByRecursion}
use Rattle.std.specs.List.Sorted.{IsNonDecreasingBy}
use Rattle.std.proofs.lemmas.Bool.{cases_lt}
use Rattle.sl_machine.specs.declared.wiring.Entry.{Entry}
use Rattle.sl_merge.specs.Merging.{entries_by, joined, AreLogs}
use Rattle.sl_merge.proofs.BoundLemmas.{each_so}
use Rattle.sl_merge.proofs.PairLemmas.{Pairs, pairs-append, by_place}
use Rattle.sl_merge.proofs.CountLemmas.{AreStrict, all_below}

-- a later entry is of a later actor, or of the same with a later number
abbrev pub Follows : Entry → Entry → Type 0
Follows e f = (e.actor ≤ f.actor) × (e.actor ≡ f.actor → e.number < f.number)

own_pairs : (n : ℕ) (log : List (ℕ × ℕ)) → AreStrict log → Pairs Follows (entries_by n log)
own_pairs n [] h = tt
own_pairs n (p ∷ log) h = (later log h.0, own_pairs n log h.1)
  where
    later : (ps : List (ℕ × ℕ)) → AllByRecursion (λ (w : ℕ × ℕ). p.0 < w.0) ps → AllByRecursion (Follows (record { number = p.0; actor = n; choice = p.1 })) (entries_by n ps)
    later [] k = tt
    later (q ∷ ps) k = ((le_refl n, λ same. k.0), later ps k.1)

of_actor : (n : ℕ) (log : List (ℕ × ℕ)) → AllByRecursion (λ (e : Entry). e.actor ≡ n) (entries_by n log)
of_actor n [] = tt
of_actor n (p ∷ log) = (refl, of_actor n log)

pub pairs : (n : ℕ) (logs : ℕ → List (ℕ × ℕ)) → ((a : ℕ) → a < n → AreStrict (logs a)) → Pairs Follows (joined n logs)
pairs zero logs h = tt
pairs (suc n) logs h =
    let ys : List Entry = entries_by n (logs n) in
    pairs-append Follows (joined n logs) ys (pairs n logs (λ a low. h a (omega arith))) (own_pairs n (logs n) (h n (omega arith)))
    (each_so (λ x. x.actor < n) (λ x. AllByRecursion (Follows x) ys)
    (λ x lt. each_so (λ y. y.actor ≡ n) (Follows x) (λ y is. (omega arith, λ same. absurd (omega arith))) ys (of_actor n (logs n)))
    (joined n logs) (all_below n n logs (le_refl n)))

module _ (n : ℕ) (logs : ℕ → List (ℕ × ℕ)) (h : (a : ℕ) → a < n → AreStrict (logs a)) where
  pub joined_logs : AreLogs (joined n logs)
  joined_logs i j d lt low same = (by_place Follows (joined n logs) i j d (pairs n logs h) lt low).1 same

  pub in_order : IsNonDecreasingBy (λ e. e.actor) (joined n logs)
  in_order i j d le low =
      elim (cases_lt i j) [
        | inl lt ↦ (by_place Follows (joined n logs) i j d (pairs n logs h) lt low).0
        | inr high ↦
            let same : i ≡ j = omega arith in
            subst (λ (k : ℕ). (get_or (joined n logs) i d).actor ≤ (get_or (joined n logs) k d).actor) same (le_refl _)
      ]
