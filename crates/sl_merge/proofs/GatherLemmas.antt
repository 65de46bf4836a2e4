-- Entries go into the buckets of their numbers, log by log.
use Rattle.std.proofs.Common.{◌≡◌, ◌∙◌, ℕ, suc, ◌+◌, ◌-◌, ◌<◌, ◌≤◌, ◌==◌, List, [], ◌∷◌, ◌++◌, length, get_or, set, map, take, drop, inl, inr, refl, sym, ap, subst, arith, add-one, replicate, None, Some, slice_get, All, append_assoc, append-nil, eq-eqb}
use Rattle.std.proofs.lemmas.Bool.{cases_eq, cases_lt, ne_eqb}
use Rattle.std.proofs.lemmas.List.{map-append, length-set, get_or-set_same, get_or-set_other, take-append-drop, take_more, get_or-take, get_or-drop, get_or_default, length-take-le, length-drop, length-replicate, get_or-replicate, get_or-map, map-set, replicate_more}
use Rattle.std.proofs.lemmas.List.Elements.{filter-append, All-more}
use Rattle.std.proofs.lemmas.Option.{get_or_from_slice_get}
use Rattle.sl_machine.specs.declared.wiring.Entry.{Entry}
use Rattle.sl_merge.specs.Merging.{IsLog, entries_by, joined}
use Rattle.sl_merge.specs.Windows.{numbered, up_to, AreEmpty, HaveNumbered, HaveMore, IsAt}
use Rattle.sl_merge.proofs.GetLemmas.{some_at}

abbrev pub entry : ℕ → ℕ × ℕ → Entry
entry actor p = record { number = p.0; actor = actor; choice = p.1 }

-- one more entry, of this number or of another
push_own : (m : ℕ) (es : List Entry) (e : Entry) → e.number ≡ m → numbered m (es ++ e ∷ []) ≡ numbered m es ++ e ∷ []
push_own m es e is =
    let one : numbered m (e ∷ []) ≡ e ∷ [] = rw (eq-eqb e.number m is) refl in
    filter-append (λ (e : Entry). e.number == m) es (e ∷ []) ∙ ap (λ t. numbered m es ++ t) one

push_other : (m : ℕ) (es : List Entry) (e : Entry) → (e.number ≡ m → ⊥) → numbered m (es ++ e ∷ []) ≡ numbered m es
push_other m es e other =
    let one : numbered m (e ∷ []) ≡ [] = rw (ne_eqb e.number m other) refl in
    filter-append (λ (e : Entry). e.number == m) es (e ∷ []) ∙ ap (λ t. numbered m es ++ t) one ∙ append-nil (numbered m es)

-- a log that doesn't have a number
without : (m actor : ℕ) (log : List (ℕ × ℕ)) → ((j : ℕ) (d : ℕ × ℕ) → j < length log → (get_or log j d).0 ≡ m → ⊥) → numbered m (entries_by actor log) ≡ []
without m actor [] h = refl
without m actor (p ∷ log) h = rw (ne_eqb p.0 m (h 0 p (omega arith))) (without m actor log (λ j d low. h (suc j) d (omega arith)))

pub more_on : (low after : ℕ) (es : List Entry) (e : Entry) (old bs bs' : List (List Entry)) → HaveMore low es old bs → after < 256 → e.number ≡ low + after → bs' ≡ set bs after (get_or bs after [] ++ e ∷ [])
    → HaveMore low (es ++ e ∷ []) old bs'
more_on low after es e old bs bs' h within number is = record {
  each = ap length is ∙ length-set bs after (get_or bs after [] ++ e ∷ []) ∙ h.each;
  more = λ k lt.
      ap (λ (l : List (List Entry)). get_or l k []) is ∙ elim (cases_eq k after) [
        | inl same ↦
            let here : get_or (set bs after (get_or bs after [] ++ e ∷ [])) after [] ≡ get_or bs after [] ++ e ∷ [] = get_or-set_same bs after (get_or bs after [] ++ e ∷ []) [] (omega (arith, h.each)) in
            ap (λ (j : ℕ). get_or (set bs after (get_or bs after [] ++ e ∷ [])) j []) same ∙ here ∙ ap (λ (j : ℕ). get_or bs j [] ++ e ∷ []) (sym same) ∙ ap (λ t. t ++ e ∷ []) (h.more k lt)
            ∙ append_assoc (get_or old k []) (numbered (low + k) es) (e ∷ []) ∙ ap (λ t. get_or old k [] ++ t) (sym (push_own (low + k) es e (omega arith)))
        | inr other ↦
            get_or-set_other bs after k (get_or bs after [] ++ e ∷ []) [] other ∙ h.more k lt ∙ ap (λ t. get_or old k [] ++ t) (sym (push_other (low + k) es e (λ same. other (omega arith))))
      ];
}

-- the buckets after the entries of a log before a place
pub record IsGathered (low actor : ℕ) (log : List (ℕ × ℕ)) (i : ℕ) (old new : List (List Entry)) : Type 0 where
  pub buckets : HaveMore low (entries_by actor (take i log)) old new
  pub before : (j : ℕ) (d : ℕ × ℕ) → j < i → (get_or log j d).0 < low + 256

module _ (low actor : ℕ) (log : List (ℕ × ℕ)) where
  pub at_place : (place : ℕ) (old : List (List Entry)) → length old ≡ 256 → IsAt low log place → IsGathered low actor log place old old
  at_place place old each at = record {
    buckets = record {
      each = each;
      more = λ k lt.
          let none : numbered (low + k) (entries_by actor (take place log)) ≡ [] =
          without (low + k) actor (take place log) (λ j d there same.
          let here : j < place = omega (arith, length-take-le place log at.within) in
          let less : (get_or log j d).0 < low = at.before j d here in
          let is : (get_or (take place log) j d).0 ≡ (get_or log j d).0 = ap (λ (p : ℕ × ℕ). p.0) (get_or-take place log j d here) in
          omega arith) in
          sym (ap (λ t. get_or old k [] ++ t) none ∙ append-nil (get_or old k []));
    };
    before = λ j d lt. omega (arith, at.before j d lt);
  }

  pub gathered_on : (i after : ℕ) (p : ℕ × ℕ) (old bs bs' : List (List Entry)) → IsGathered low actor log i old bs → i < length log → get_or log i p ≡ p → after < 256 → p.0 ≡ low + after
      → bs' ≡ set bs after (get_or bs after [] ++ entry actor p ∷ []) → IsGathered low actor log (i + 1) old bs'
  gathered_on i after p old bs bs' h there here within number is = record {
    buckets =
        let step : entries_by actor (take (i + 1) log) ≡ entries_by actor (take i log) ++ entry actor p ∷ [] =
        ap (entries_by actor) (take_more log i p there ∙ ap (λ q. take i log ++ q ∷ []) here) ∙ map-append (entry actor) (take i log) (p ∷ []) in
        subst (λ (es : List Entry). HaveMore low es old bs') (sym step) (more_on low after (entries_by actor (take i log)) (entry actor p) old bs bs' h.buckets within number is);
    before = λ j d lt.
        elim (cases_lt j i) [
          | inl less ↦ h.before j d less
          | inr high ↦
              let same : j ≡ i = omega arith in
              let number_is : (get_or log j d).0 ≡ p.0 = ap (λ (j : ℕ). (get_or log j d).0) same ∙ ap (λ (q : ℕ × ℕ). q.0) (get_or_default log i d p there ∙ here) in
              omega arith
        ];
  }

  module _ (i : ℕ) (old bs : List (List Entry)) (h : IsGathered low actor log i old bs) (within : i ≤ length log) (rest : (j : ℕ) (d : ℕ × ℕ) → i ≤ j → j < length log → low + 256 ≤ (get_or log j d).0) where
    pub all_gathered : HaveMore low (entries_by actor log) old bs
    all_gathered = record {
      each = h.buckets.each;
      more = λ k lt.
          let none : numbered (low + k) (entries_by actor (drop i log)) ≡ [] =
          without (low + k) actor (drop i log) (λ j d there same.
          let far : low + 256 ≤ (get_or log (i + j) d).0 = rest (i + j) d (omega arith) (omega (arith, length-drop i log)) in
          let is : (get_or (drop i log) j d).0 ≡ (get_or log (i + j) d).0 = ap (λ (p : ℕ × ℕ). p.0) (get_or-drop i log j d) in
          omega arith) in
          let parts : entries_by actor log ≡ entries_by actor (take i log) ++ entries_by actor (drop i log) = ap (entries_by actor) (sym (take-append-drop i log)) ∙ map-append (entry actor) (take i log) (drop i log) in
          let all : numbered (low + k) (entries_by actor log) ≡ numbered (low + k) (entries_by actor (take i log)) =
          ap (numbered (low + k)) parts ∙ filter-append (λ (e : Entry). e.number == low + k) (entries_by actor (take i log)) (entries_by actor (drop i log)) ∙ ap (λ t. numbered (low + k) (entries_by actor (take i log)) ++ t) none ∙ append-nil _ in
          h.buckets.more k lt ∙ ap (λ t. get_or old k [] ++ t) (sym all);
    }

    pub next_place : IsAt (low + 256) log i
    next_place = record { within = within; before = h.before; after = rest }

-- from an entry on that is past a window, all are
pub all_past : (low : ℕ) (log : List (ℕ × ℕ)) (i : ℕ) (p : ℕ × ℕ) → IsLog log → get_or log i p ≡ p → low + 256 ≤ p.0 → (j : ℕ) (d : ℕ × ℕ) → i ≤ j → j < length log → low + 256 ≤ (get_or log j d).0
all_past low log i p rises here far j d le there =
    let first : (get_or log i d).0 ≡ p.0 = ap (λ (q : ℕ × ℕ). q.0) (get_or_default log i d p (omega arith) ∙ here) in
    elim (cases_lt i j) [
      | inl lt ↦ omega (arith, rises i j d lt there)
      | inr high ↦
          let same : i ≡ j = omega arith in
          let number : (get_or log i d).0 ≡ (get_or log j d).0 = ap (λ (k : ℕ). (get_or log k d).0) same in
          omega arith
    ]

-- the buckets and the places after the logs of so many actors
pub record AreGathered (low : ℕ) (logs : List (List (ℕ × ℕ))) (a : ℕ) (buckets : List (List Entry)) (places : List ℕ) : Type 0 where
  pub buckets_are : HaveNumbered low (joined a (λ b. get_or logs b [])) buckets
  pub each : length places ≡ length logs
  pub done : (b : ℕ) → b < a → IsAt (low + 256) (get_or logs b []) (get_or places b 0)
  pub left : (b : ℕ) → a ≤ b → b < length logs → IsAt low (get_or logs b []) (get_or places b 0)

module _ (low : ℕ) (logs : List (List (ℕ × ℕ))) where
  pub one_gathered : (a next : ℕ) (bs bs' : List (List Entry)) (places places' : List ℕ) → AreGathered low logs a bs places → a < length logs → HaveMore low (entries_by a (get_or logs a [])) bs bs'
      → IsAt (low + 256) (get_or logs a []) next → places' ≡ set places a next → AreGathered low logs (a + 1) bs' places'
  one_gathered a next bs bs' places places' h there more at is =
      let one : joined (a + 1) (λ b. get_or logs b []) ≡ joined a (λ b. get_or logs b []) ++ entries_by a (get_or logs a []) = ap (λ k. joined k (λ b. get_or logs b [])) (add-one a) in
      let place : (b : ℕ) → (b ≡ a → ⊥) → get_or places' b 0 ≡ get_or places b 0 = λ b other. ap (λ (l : List ℕ). get_or l b 0) is ∙ get_or-set_other places a b next 0 other in
      record {
        buckets_are = record {
          each = more.each;
          held = λ k lt.
              more.more k lt ∙ ap (λ t. t ++ numbered (low + k) (entries_by a (get_or logs a []))) (h.buckets_are.held k lt)
              ∙ sym (ap (numbered (low + k)) one ∙ filter-append (λ (e : Entry). e.number == low + k) (joined a (λ b. get_or logs b [])) (entries_by a (get_or logs a [])));
        };
        each = ap length is ∙ length-set places a next ∙ h.each;
        done = λ b lt.
            elim (cases_eq b a) [
              | inl same ↦
                  let own : get_or places' b 0 ≡ next = ap (λ (l : List ℕ). get_or l b 0) is ∙ ap (λ (k : ℕ). get_or (set places a next) k 0) same ∙ get_or-set_same places a next 0 (omega (arith, h.each)) in
                  subst (λ (q : ℕ × ℕ). IsAt (low + 256) (get_or logs q.0 []) q.1) (λ i. (sym same i, sym own i)) at
              | inr other ↦ subst (λ (place : ℕ). IsAt (low + 256) (get_or logs b []) place) (sym (place b other)) (h.done b (grind arith))
            ];
        left = λ b le lt. subst (λ (place : ℕ). IsAt low (get_or logs b []) place) (sym (place b (λ same. omega arith))) (h.left b (omega arith) lt);
      }

-- the buckets of a window are poured out one by one
poured_on : (low i : ℕ) (es bucket entries entries' : List Entry) → entries ≡ up_to (low + i) es → bucket ≡ numbered (low + i) es → entries' ≡ entries ++ bucket → entries' ≡ up_to (low + (i + 1)) es
poured_on low i es bucket entries entries' h own is =
    let next : low + (i + 1) ≡ suc (low + i) = omega arith in
    is ∙ ap (λ t. t ++ bucket) h ∙ ap (λ t. up_to (low + i) es ++ t) own ∙ sym (ap (λ k. up_to k es) next)

-- the first i buckets are poured out, and the others are as before
pub record IsPoured (i : ℕ) (old new : List (List Entry)) (entries entries' : List Entry) : Type 0 where
  pub each : length new ≡ 256
  pub empty : (k : ℕ) → k < i → get_or new k [] ≡ []
  pub same : (k : ℕ) → i ≤ k → get_or new k [] ≡ get_or old k []
  pub poured : (low : ℕ) (es : List Entry) → HaveNumbered low es old → entries ≡ up_to low es → entries' ≡ up_to (low + i) es

pub one_poured : (i : ℕ) (old bs bs' : List (List Entry)) (entries now now' : List Entry) → i < 256 → IsPoured i old bs entries now → bs' ≡ set bs i [] → now' ≡ now ++ get_or bs i [] → IsPoured (i + 1) old bs' entries now'
one_poured i old bs bs' entries now now' lt h is more =
    let place : (k : ℕ) → (k ≡ i → ⊥) → get_or bs' k [] ≡ get_or bs k [] = λ k other. ap (λ (l : List (List Entry)). get_or l k []) is ∙ get_or-set_other bs i k [] [] other in
    record {
      each = ap length is ∙ length-set bs i [] ∙ h.each;
      empty = λ k low.
          elim (cases_eq k i) [
            | inl same ↦ ap (λ (l : List (List Entry)). get_or l k []) is ∙ ap (λ (j : ℕ). get_or (set bs i []) j []) same ∙ get_or-set_same bs i [] [] (omega (arith, h.each))
            | inr other ↦ place k other ∙ h.empty k (grind arith)
          ];
      same = λ k le. place k (λ same. omega arith) ∙ h.same k (omega arith);
      poured = λ low es held start. poured_on low i es (get_or bs i []) now now' (h.poured low es held start) (h.same i (omega arith) ∙ held.held i lt) more;
    }

-- lists that are kept in others
module _ {X V : Type 0} (items : V → List X) where
  pub item_at : (vs : List V) (k : ℕ) (v : V) → k < length vs → v ≡ get_or vs k v → items v ≡ get_or (map items vs) k []
  item_at vs k v low is = ap items is ∙ sym (get_or-map items vs k v [] low)

  pub item_pushed : (vs : List V) (k : ℕ) (v v' : V) (xs : List X) → k < length vs → v ≡ get_or vs k v → items v' ≡ items v ++ xs → map items (set vs k v') ≡ set (map items vs) k (get_or (map items vs) k [] ++ xs)
  item_pushed vs k v v' xs low is more = map-set items vs k v' ∙ ap (λ t. set (map items vs) k t) (more ∙ ap (λ t. t ++ xs) (item_at vs k v low is))

  pub item_added : (n : ℕ) (vs vs' : List V) (v : V) → map items vs ≡ replicate n [] → vs' ≡ vs ++ v ∷ [] → items v ≡ [] → map items vs' ≡ replicate (n + 1) []
  item_added n vs vs' v h is empty =
      ap (map items) is ∙ map-append items vs (v ∷ []) ∙ ap (λ t. t ++ items v ∷ []) h ∙ ap (λ t. replicate n [] ++ t ∷ []) empty ∙ replicate_more n []

pub are_empty : (n : ℕ) (bs : List (List Entry)) → n ≡ 256 → bs ≡ replicate n [] → AreEmpty bs
are_empty n bs all is = record {
  each = ap length is ∙ length-replicate n [] ∙ all;
  empty = λ k lt. ap (λ (l : List (List Entry)). get_or l k []) is ∙ get_or-replicate n k [] [] (omega arith);
}

-- the last number of a log is the greatest
pub greatest : (log : List (ℕ × ℕ)) (p : ℕ × ℕ) (last : ℕ) → IsLog log → Some p ≡ slice_get log (length log - 1) → p.0 ≤ last → All (λ q. q.0 ≤ last) log
greatest log p last rises is le i d low =
    let end : ℕ = length log - 1 in
    let here : get_or log end d ≡ p = get_or_from_slice_get log end p d (sym is) in
    elim (cases_lt i end) [
      | inl lt ↦ omega (arith, rises i end d lt (omega arith), ap (λ (q : ℕ × ℕ). q.0) here)
      | inr high ↦
          let same : i ≡ end = omega arith in
          let number : (get_or log i d).0 ≡ p.0 = ap (λ (k : ℕ). (get_or log k d).0) same ∙ ap (λ (q : ℕ × ℕ). q.0) here in
          omega arith
    ]

pub none_greatest : (log : List (ℕ × ℕ)) (last : ℕ) → None ≡ slice_get log (length log - 1) → All (λ q. q.0 ≤ last) log
none_greatest log last is i d low =
    let some = some_at log (length log - 1) (omega arith) in
    absurd (let both : None ≡ Some some.0 = is ∙ some.1 in cc)

pub greatest_on : {V : Type 0} (items : V → List (ℕ × ℕ)) (logs : List V) (n last last' : ℕ) (v : V) → n < length logs → v ≡ get_or logs n v → All (λ v. All (λ q. q.0 ≤ last) (items v)) (take n logs) → last ≤ last'
    → All (λ q. q.0 ≤ last') (items v) → All (λ v. All (λ q. q.0 ≤ last') (items v)) (take (n + 1) logs)
greatest_on {V} items logs n last last' v low is h le own =
    All-more (λ v. All (λ q. q.0 ≤ last') (items v)) logs n v low (λ k d lt i e there. omega (arith, h k d lt i e there)) (subst (λ (w : V). All (λ q. q.0 ≤ last') (items w)) is own)
