-- No wake-up is lost, act by act.
use Rattle.std.proofs.Common.{◌≡◌, ◌≢◌, ◌+◌, ◌-◌, ◌<◌, ◌==◌, ◌⊎◌, inl, inr, ⊎_elim, ℕ, Bool, true, false, true≢false, List, [], ◌∷◌, if◌then◌else◌, refl, sym, ap, ◌∙◌, subst, eq-eqb, ne_eqb, arith}
use Rattle.std.proofs.lemmas.Bool.{cases_eq}
use Rattle.sl_sleep.specs.Wakes.{Ends, Beds, Act, Put, Ask, Wake, LieDown, Sleep, GetUp, End, Begin, Rouse, FindEmpty, Take, HoldBack, PutAll, Mark, MeetFull, SeeNoMark, TakeMark, AskSender, WakeSender, at, IsAllowed, after, after_all, AreAllowed, begun, IsStill, OwesNothing, LosesNoWakeUp, HoldsNothingBack}

module _ {X : Type 0} (i j : ℕ) (x : X) (f : ℕ → X) where
  at_is : j ≡ i → at i x f j ≡ x
  at_is same = ap (λ (b : Bool). if b then x else f j) (eq-eqb j i same)

  at_else : j ≢ i → at i x f j ≡ f j
  at_else other = ap (λ (b : Bool). if b then x else f j) (ne_eqb j i other)

  -- what is true of the new value and of what was there
  at_either : (P : X → Type 0) → P x → P (f j) → P (at i x f j)
  at_either P new old =
      elim (cases_eq j i) [
        | inl same ↦ subst P (sym (at_is same)) new
        | inr other ↦ subst P (sym (at_else other)) old
      ]

  at_more : f j ≡ x → at i x f j ≡ x
  at_more = at_either (λ (y : X). y ≡ x) refl

-- what is true after one place became false was true, and is at another place
still_true : (i j : ℕ) (f : ℕ → Bool) → at i false f j ≡ true → (f j ≡ true) × (j ≢ i)
still_true i j f h =
    elim (cases_eq j i) [
      | inl same ↦ absurd (true≢false (sym h ∙ at_is i j false f same))
      | inr other ↦ (sym (at_else i j false f other) ∙ h, other)
    ]

still_false : (i j : ℕ) (f : ℕ → Bool) → at i true f j ≡ false → (f j ≡ false) × (j ≢ i)
still_false i j f h =
    elim (cases_eq j i) [
      | inl same ↦ absurd (true≢false (sym (at_is i j true f same) ∙ h))
      | inr other ↦ (sym (at_else i j true f other) ∙ h, other)
    ]

not_cleared : (i j : ℕ) (b : Bool) → (if j == i then false else b) ≡ true → (b ≡ true) × (j ≢ i)
not_cleared i j b h = still_true i j (λ _. b) h

apart : (f : ℕ → Bool) (a b : ℕ) → f a ≡ true → f b ≡ false → a ≢ b
apart f a b here there same = true≢false (sym here ∙ ap f same ∙ there)

-- who is still after an act of an actor was still before it, but for that actor
module _ (s : Beds) (a b : ℕ) where
  slept_before : b ≢ a → (at a true s.sleeps b ≡ true) ⊎ (s.ended b ≡ true) → IsStill s b
  slept_before other = ⊎_elim (λ (x : at a true s.sleeps b ≡ true). inl (sym (at_else a b true s.sleeps other) ∙ x)) (λ (x : s.ended b ≡ true). inr x)

  ended_before : b ≢ a → (s.sleeps b ≡ true) ⊎ (at a true s.ended b ≡ true) → IsStill s b
  ended_before other = ⊎_elim (λ (x : s.sleeps b ≡ true). inl x) (λ (x : at a true s.ended b ≡ true). inr (sym (at_else a b true s.ended other) ∙ x))

  got_up_before : (at a false s.sleeps b ≡ true) ⊎ (s.ended b ≡ true) → IsStill s b
  got_up_before = ⊎_elim (λ (x : at a false s.sleeps b ≡ true). inl (still_true a b s.sleeps x).0) (λ (x : s.ended b ≡ true). inr x)

  begun_before : (s.sleeps b ≡ true) ⊎ (at a false s.ended b ≡ true) → IsStill s b
  begun_before = ⊎_elim (λ (x : s.sleeps b ≡ true). inl x) (λ (x : at a false s.ended b ≡ true). inr (still_true a b s.ended x).0)

pub record Keeps (e : Ends) (s : Beds) : Type 0 where
  -- a link that its receiver found empty since it lay down holds nothing, unless the receiver was or will be woken
  pub empty : (l : ℕ) → s.word (e.to l) ≡ true → s.lies (e.to l) ≡ true → s.seen l ≡ true → s.owed l ≡ false → s.held l ≡ 0
  -- who sleeps has lain down, and found each of its links empty since
  pub looked : (l : ℕ) → s.sleeps (e.to l) ≡ true → (s.lies (e.to l) ≡ true) × (s.seen l ≡ true)
  -- who is still has told of all that it put
  pub told : (l : ℕ) → IsStill s (e.from l) → s.owed l ≡ false

keeps_begun : (e : Ends) → Keeps e begun
keeps_begun e = record { empty = λ l w d n o. refl; looked = λ l w. absurd (true≢false (sym w)); told = λ l w. refl }

module _ (e : Ends) (s : Beds) (h : Keeps e s) where
  -- one link less is owed
  told_more : (l k : ℕ) → IsStill s (e.from k) → at l false s.owed k ≡ false
  told_more l k still = at_more l k false s.owed (h.told k still)

  -- one actor more is still, which has told of all that it put
  told_then : (a k : ℕ) (Then : ℕ → Type 0) → OwesNothing e s a → ((b : ℕ) → b ≢ a → Then b → IsStill s b) → Then (e.from k) → s.owed k ≡ false
  told_then a k Then owes before still =
      elim (cases_eq (e.from k) a) [
        | inl same ↦ owes.told k same
        | inr other ↦ h.told k (before (e.from k) other still)
      ]

  never_still : (l k : ℕ) → k ≡ l → (s.sleeps (e.from l) ≡ false) × (s.ended (e.from l) ≡ false) → IsStill s (e.from k) → ⊥
  never_still l k same up still =
      ⊎_elim (λ (x : s.sleeps (e.from k) ≡ true). true≢false (sym x ∙ ap (λ n. s.sleeps (e.from n)) same ∙ up.0))
      (λ (x : s.ended (e.from k) ≡ true). true≢false (sym x ∙ ap (λ n. s.ended (e.from n)) same ∙ up.1)) still

  keeps : (a : Act) → IsAllowed e s a → Keeps e (after e s a)
  keeps (Put l) up =
      record {
        empty = λ k w d n o. let was = still_false l k s.owed o in at_else l k (s.held l + 1) s.held was.1 ∙ h.empty k w d n was.0;
        looked = h.looked;
        told = λ k still.
            elim (cases_eq k l) [
              | inl same ↦ absurd (never_still l k same up still)
              | inr other ↦ at_else l k true s.owed other ∙ h.told k still
            ];
      }
  keeps (Ask l) awake =
      record {
        empty = λ k w d n o.
            elim (cases_eq k l) [
              | inl same ↦ absurd (true≢false (sym w ∙ ap (λ n. s.word (e.to n)) same ∙ awake))
              | inr other ↦ h.empty k w d n (sym (at_else l k false s.owed other) ∙ o)
            ];
        looked = h.looked;
        told = told_more l;
      }
  keeps (Wake l) _ =
      record {
        empty = λ k w d n o. let was = still_true (e.to l) (e.to k) s.word w in h.empty k was.0 d n (sym (at_else l k false s.owed (λ same. was.1 (ap e.to same))) ∙ o);
        looked = h.looked;
        told = told_more l;
      }
  keeps (LieDown a) up =
      record {
        empty = λ k w d n o. let was = not_cleared a (e.to k) (s.seen k) n in h.empty k (sym (at_else a (e.to k) true s.word was.1) ∙ w) (sym (at_else a (e.to k) true s.lies was.1) ∙ d) was.0 o;
        looked = λ k w. let other = apart s.sleeps (e.to k) a w up in let was = h.looked k w in (at_else a (e.to k) true s.lies other ∙ was.0, at_else a (e.to k) false (λ _. s.seen k) other ∙ was.1);
        told = h.told;
      }
  keeps (Sleep a) may =
      record {
        empty = h.empty;
        looked = λ k w.
            elim (cases_eq (e.to k) a) [
              | inl same ↦ (ap s.lies same ∙ may.0, may.1 k same)
              | inr other ↦ h.looked k (sym (at_else a (e.to k) true s.sleeps other) ∙ w)
            ];
        told = λ k still. told_then a k (IsStill (after e s (Sleep a))) may.2 (slept_before s a) still;
      }
  keeps (GetUp a) _ =
      record {
        empty = λ k w d n o. h.empty k (still_true a (e.to k) s.word w).0 (still_true a (e.to k) s.lies d).0 n o;
        looked = λ k w. let was = still_true a (e.to k) s.sleeps w in let before = h.looked k was.0 in (at_else a (e.to k) false s.lies was.1 ∙ before.0, before.1);
        told = λ k still. h.told k (got_up_before s a (e.from k) still);
      }
  keeps (End a) all = record { empty = h.empty; looked = h.looked; told = λ k still. told_then a k (IsStill (after e s (End a))) all (ended_before s a) still }
  keeps (Begin a) _ = record { empty = h.empty; looked = h.looked; told = λ k still. h.told k (begun_before s a (e.from k) still) }
  keeps (Rouse a) _ = record { empty = λ k w d n o. h.empty k (still_true a (e.to k) s.word w).0 d n o; looked = h.looked; told = h.told }
  keeps (FindEmpty l) may =
      record {
        empty = λ k w d n o.
            elim (cases_eq k l) [
              | inl same ↦ ap s.held same ∙ may.0
              | inr other ↦ h.empty k w d (sym (at_else l k true s.seen other) ∙ n) o
            ];
        looked = λ k w.
            let was = h.looked k w in (was.0, at_more l k true s.seen was.1);
        told = h.told;
      }
  keeps (Take l) may =
      record {
        empty = λ k w d n o. let was = still_true (e.to l) (e.to k) s.lies d in at_else l k (s.held l - 1) s.held (λ same. was.1 (ap e.to same)) ∙ h.empty k w was.0 n o;
        looked = λ k w. let other = apart s.sleeps (e.to k) (e.to l) w may.1 in let was = h.looked k w in (at_else (e.to l) (e.to k) false s.lies other ∙ was.0, was.1);
        told = h.told;
      }
  keeps (HoldBack l) _ = record { empty = h.empty; looked = h.looked; told = h.told }
  keeps (PutAll l) _ = record { empty = h.empty; looked = h.looked; told = h.told }
  keeps (Mark l) _ = record { empty = h.empty; looked = h.looked; told = h.told }
  keeps (MeetFull l) _ = record { empty = h.empty; looked = h.looked; told = h.told }
  keeps (SeeNoMark l) _ = record { empty = h.empty; looked = h.looked; told = h.told }
  keeps (TakeMark l) _ = record { empty = h.empty; looked = h.looked; told = h.told }
  keeps (AskSender l) _ = record { empty = h.empty; looked = h.looked; told = h.told }
  keeps (WakeSender l) _ = record { empty = λ k w d n o. h.empty k (still_true (e.from l) (e.to k) s.word w).0 d n o; looked = h.looked; told = h.told }

pub record Rooms (e : Ends) (s : Beds) : Type 0 where
  pub placed : (l : ℕ) → s.met l ≡ true → s.fresh l ≡ true
  -- a link that its sender marked since it lay down has the mark still, unless the sender was or will be woken
  pub marks : (l : ℕ) → s.word (e.from l) ≡ true → s.fresh l ≡ true → (s.marked l ≡ true) ⊎ (s.calls l ≡ true)
  -- and if it met it full since, the link holds something until its receiver takes it, looks and wakes the sender
  pub full : (l : ℕ) → s.word (e.from l) ≡ true → s.met l ≡ true → s.seen l ≡ true → s.lies (e.to l) ≡ true → s.due l ≡ false → s.calls l ≡ false → 0 < s.held l
  -- who is still owes nothing for links that it found empty
  pub done : (l : ℕ) → IsStill s (e.to l) → (s.due l ≡ false) × (s.calls l ≡ false)
  -- who sleeps met each link full on which something waits
  pub back : (l : ℕ) → s.sleeps (e.from l) ≡ true → s.waits l ≡ true → s.met l ≡ true

rooms_begun : (e : Ends) → Rooms e begun
rooms_begun e =
    record {
      placed = λ l m. absurd (true≢false (sym m));
      marks = λ l w f. absurd (true≢false (sym w));
      full = λ l w m n d u c. absurd (true≢false (sym w));
      done = λ l x. (refl, refl);
      back = λ l w x. absurd (true≢false (sym w));
    }

module _ (e : Ends) (s : Beds) (r : Rooms e s) where
  -- one link less is owed for
  done_more : (l k : ℕ) → IsStill s (e.to k) → (s.due k ≡ false) × (at l false s.calls k ≡ false)
  done_more l k still = let was = r.done k still in (was.0, at_more l k false s.calls was.1)

  -- one actor more is still, which owes nothing
  done_then : (a k : ℕ) (Then : ℕ → Type 0) → OwesNothing e s a → ((b : ℕ) → b ≢ a → Then b → IsStill s b) → Then (e.to k) → (s.due k ≡ false) × (s.calls k ≡ false)
  done_then a k Then owes before still =
      elim (cases_eq (e.to k) a) [
        | inl same ↦ (owes.looked k same, owes.called k same)
        | inr other ↦ r.done k (before (e.to k) other still)
      ]

  up_still : (l k : ℕ) → k ≡ l → s.sleeps (e.to l) ≡ false → s.ended (e.to l) ≡ false → IsStill s (e.to k) → ⊥
  up_still l k same up on still =
      ⊎_elim (λ (x : s.sleeps (e.to k) ≡ true). true≢false (sym x ∙ ap (λ n. s.sleeps (e.to n)) same ∙ up))
      (λ (x : s.ended (e.to k) ≡ true). true≢false (sym x ∙ ap (λ n. s.ended (e.to n)) same ∙ on)) still

  -- an actor is woken, whatever is owed
  woken : (a : ℕ) (owed : ℕ → Bool) → Rooms e (record s { word = at a false s.word; owed = owed })
  woken a owed =
      record {
        placed = r.placed;
        marks = λ k w f. r.marks k (still_true a (e.from k) s.word w).0 f;
        full = λ k w m n d u c. r.full k (still_true a (e.from k) s.word w).0 m n d u c;
        done = r.done;
        back = r.back;
      }

  -- the sender of a link is awake, or is woken
  answered : (l : ℕ) (word : ℕ → Bool) → ((k : ℕ) → word (e.from k) ≡ true → (s.word (e.from k) ≡ true) × (k ≢ l)) → Rooms e (record s { word = word; calls = at l false s.calls })
  answered l word awake =
      record {
        placed = r.placed;
        marks = λ k w f. let was = awake k w in ⊎_elim (λ (x : s.marked k ≡ true). inl x) (λ (x : s.calls k ≡ true). inr (at_else l k false s.calls was.1 ∙ x)) (r.marks k was.0 f);
        full = λ k w m n d u c. let was = awake k w in r.full k was.0 m n d u (sym (at_else l k false s.calls was.1) ∙ c);
        done = done_more l;
        back = r.back;
      }

  rooms : (a : Act) → IsAllowed e s a → Rooms e (after e s a)
  rooms (Put l) up =
      record {
        placed = r.placed;
        marks = r.marks;
        full = λ k w m n d u c. at_either l k (s.held l + 1) s.held (λ (h : ℕ). 0 < h) (omega arith) (r.full k w m n d u c);
        done = r.done;
        back = r.back;
      }
  rooms (Ask l) _ = record { placed = r.placed; marks = r.marks; full = r.full; done = r.done; back = r.back }
  rooms (Wake l) _ = woken (e.to l) (at l false s.owed)
  rooms (LieDown a) up =
      record {
        placed = λ k m. let was = not_cleared a (e.from k) (s.met k) m in at_else a (e.from k) false (λ _. s.fresh k) was.1 ∙ r.placed k was.0;
        marks = λ k w f. let was = not_cleared a (e.from k) (s.fresh k) f in r.marks k (sym (at_else a (e.from k) true s.word was.1) ∙ w) was.0;
        full = λ k w m n d u c.
            let was = not_cleared a (e.from k) (s.met k) m in
            let look = not_cleared a (e.to k) (s.seen k) n in
            r.full k (sym (at_else a (e.from k) true s.word was.1) ∙ w) was.0 look.0 (sym (at_else a (e.to k) true s.lies look.1) ∙ d) u c;
        done = r.done;
        back = λ k w x. at_else a (e.from k) false (λ _. s.met k) (apart s.sleeps (e.from k) a w up) ∙ r.back k w x;
      }
  rooms (Sleep a) may =
      record {
        placed = r.placed;
        marks = r.marks;
        full = r.full;
        done = λ k still. done_then a k (IsStill (after e s (Sleep a))) may.2 (slept_before s a) still;
        back = λ k w x.
            elim (cases_eq (e.from k) a) [
              | inl same ↦ may.3 k same x
              | inr other ↦ r.back k (sym (at_else a (e.from k) true s.sleeps other) ∙ w) x
            ];
      }
  rooms (GetUp a) _ =
      record {
        placed = r.placed;
        marks = λ k w f. r.marks k (still_true a (e.from k) s.word w).0 f;
        full = λ k w m n d u c. r.full k (still_true a (e.from k) s.word w).0 m n (still_true a (e.to k) s.lies d).0 u c;
        done = λ k still. r.done k (got_up_before s a (e.to k) still);
        back = λ k w x. r.back k (still_true a (e.from k) s.sleeps w).0 x;
      }
  rooms (End a) all =
      record {
        placed = r.placed;
        marks = r.marks;
        full = r.full;
        done = λ k still. done_then a k (IsStill (after e s (End a))) all (ended_before s a) still;
        back = r.back;
      }
  rooms (Begin a) _ = record { placed = r.placed; marks = r.marks; full = r.full; done = λ k still. r.done k (begun_before s a (e.to k) still); back = r.back }
  rooms (Rouse a) _ = woken a s.owed
  rooms (FindEmpty l) may =
      record {
        placed = r.placed;
        marks = r.marks;
        full = λ k w m n d u c. let was = still_false l k s.due u in r.full k w m (sym (at_else l k true s.seen was.1) ∙ n) d was.0 c;
        done = λ k still.
            elim (cases_eq k l) [
              | inl same ↦ absurd (up_still l k same may.1 may.2 still)
              | inr other ↦ let was = r.done k still in (at_else l k true s.due other ∙ was.0, was.1)
            ];
        back = r.back;
      }
  rooms (Take l) may =
      record {
        placed = r.placed;
        marks = r.marks;
        full = λ k w m n d u c.
            let was = still_true (e.to l) (e.to k) s.lies d in
            let is = at_else l k (s.held l - 1) s.held (λ same. was.1 (ap e.to same)) in
            let before = r.full k w m n was.0 u c in
            omega (arith, is, before);
        done = r.done;
        back = r.back;
      }
  rooms (HoldBack l) up =
      record {
        placed = r.placed;
        marks = r.marks;
        full = r.full;
        done = r.done;
        back = λ k w x.
            elim (cases_eq k l) [
              | inl same ↦ absurd (apart s.sleeps (e.from k) (e.from l) w up (ap e.from same))
              | inr other ↦ r.back k w (sym (at_else l k true s.waits other) ∙ x)
            ];
      }
  rooms (PutAll l) _ = record { placed = r.placed; marks = r.marks; full = r.full; done = r.done; back = λ k w x. r.back k w (still_true l k s.waits x).0 }
  rooms (Mark l) _ =
      record {
        placed = λ k m. at_more l k true s.fresh (r.placed k m);
        marks = λ k w f.
            elim (cases_eq k l) [
              | inl same ↦ inl (at_is l k true s.marked same)
              | inr other ↦ ⊎_elim (λ (x : s.marked k ≡ true). inl (at_else l k true s.marked other ∙ x)) (λ (x : s.calls k ≡ true). inr x) (r.marks k w (sym (at_else l k true s.fresh other) ∙ f))
            ];
        full = r.full;
        done = r.done;
        back = r.back;
      }
  rooms (MeetFull l) may =
      record {
        placed = λ k m.
            elim (cases_eq k l) [
              | inl same ↦ ap s.fresh same ∙ may.1
              | inr other ↦ r.placed k (sym (at_else l k true s.met other) ∙ m)
            ];
        marks = r.marks;
        full = λ k w m n d u c.
            elim (cases_eq k l) [
              | inl same ↦ subst (λ (n : ℕ). 0 < s.held n) (sym same) may.0
              | inr other ↦ r.full k w (sym (at_else l k true s.met other) ∙ m) n d u c
            ];
        done = r.done;
        back = λ k w x. at_more l k true s.met (r.back k w x);
      }
  rooms (SeeNoMark l) may =
      record {
        placed = r.placed;
        marks = r.marks;
        full = λ k w m n d u c.
            elim (cases_eq k l) [
              | inl same ↦
                  absurd (⊎_elim (λ (x : s.marked k ≡ true). true≢false (sym x ∙ ap s.marked same ∙ may.1)) (λ (x : s.calls k ≡ true). true≢false (sym x ∙ c)) (r.marks k w (r.placed k m)))
              | inr other ↦ r.full k w m n d (sym (at_else l k false s.due other) ∙ u) c
            ];
        done = λ k still. let was = r.done k still in (at_more l k false s.due was.0, was.1);
        back = r.back;
      }
  rooms (TakeMark l) due =
      record {
        placed = r.placed;
        marks = λ k w f.
            elim (cases_eq k l) [
              | inl same ↦ inr (at_is l k true s.calls same)
              | inr other ↦ ⊎_elim (λ (x : s.marked k ≡ true). inl (at_else l k false s.marked other ∙ x)) (λ (x : s.calls k ≡ true). inr (at_else l k true s.calls other ∙ x)) (r.marks k w f)
            ];
        full = λ k w m n d u c. let was = still_false l k s.calls c in r.full k w m n d (sym (at_else l k false s.due was.1) ∙ u) was.0;
        done = λ k still.
            let was = r.done k still in
            elim (cases_eq k l) [
              | inl same ↦ absurd (true≢false (sym due ∙ ap s.due (sym same) ∙ was.0))
              | inr other ↦ (at_else l k false s.due other ∙ was.0, at_else l k true s.calls other ∙ was.1)
            ];
        back = r.back;
      }
  rooms (AskSender l) may = answered l s.word (λ k w. (w, λ same. true≢false (sym w ∙ ap (λ n. s.word (e.from n)) same ∙ may.1)))
  rooms (WakeSender l) _ = answered l (at (e.from l) false s.word) (λ k w. let was = still_true (e.from l) (e.from k) s.word w in (was.0, λ same. was.1 (ap e.from same)))

keeps_all : (e : Ends) (s : Beds) (acts : List Act) → Keeps e s → AreAllowed e s acts → Keeps e (after_all e s acts)
keeps_all e s [] h may = h
keeps_all e s (a ∷ acts) h may = keeps_all e (after e s a) acts (keeps e s h a may.0) may.1

pub none_lost : (e : Ends) (acts : List Act) → AreAllowed e begun acts → LosesNoWakeUp e (after_all e begun acts)
none_lost e acts may l still asleep =
    let h = keeps_all e begun acts (keeps_begun e) may in
    let was = h.looked l asleep.0 in
    h.empty l asleep.1 was.0 was.1 (h.told l still)

rooms_all : (e : Ends) (s : Beds) (acts : List Act) → Rooms e s → AreAllowed e s acts → Rooms e (after_all e s acts)
rooms_all e s [] r may = r
rooms_all e s (a ∷ acts) r may = rooms_all e (after e s a) acts (rooms e s r a may.0) may.1

pub none_held_back : (e : Ends) (acts : List Act) → AreAllowed e begun acts → HoldsNothingBack e (after_all e begun acts)
none_held_back e acts may l sender waits receiver =
    let h = keeps_all e begun acts (keeps_begun e) may in
    let r = rooms_all e begun acts (rooms_begun e) may in
    let was = h.looked l receiver.0 in
    let done = r.done l (inl receiver.0) in
    let some = r.full l sender.1 (r.back l sender.0 waits) was.1 was.0 done.0 done.1 in
    let none = none_lost e acts may l (inl sender.0) receiver in
    omega (arith, some, none)
