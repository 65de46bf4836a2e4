-- A view that shows the calls of a history gives what the unit counted.
use Rattle.std.proofs.Common.{◌≡◌, ℕ, zero, suc, ◌+◌, ◌-◌, ◌%◌, ◌<◌, ◌≤◌, List, [], ◌∷◌, length, refl, sym, ap, subst, ◌∙◌, arith, inl, inr, Some}
use Rattle.std.specs.Prelude.{map, slice_index_or, ◌⊎◌, cond, ◌==◌}
use Rattle.std.specs.List.{AllByRecursion}
use Rattle.std.proofs.lemmas.Bool.{lt-ltb, le-ltb, cases_lt, eq-eqb, ne_eqb}
use Rattle.sl_saves.specs.declared.entry.Slot.{Slot}
use Rattle.sl_saves.specs.declared.entry.View.{View}
use Rattle.sl_saves.specs.Calls.{Save, saves, number}
use Rattle.sl_saves.specs.Views.{path, slot_in, slot_of, place_below, no_slot, IsSeen, IsShown, Place, IsLive, last_place}
use Rattle.sl_model.specs.declared.message.Step.{Step}
use Rattle.sl_model.specs.History.{History, id}
use Rattle.sl_model.specs.Counting.{packets, bytes}
use Rattle.sl_model.specs.Cut.{before}
use Rattle.sl_model.specs.Verdict.{adopted}
use Rattle.sl_model.specs.Calls.{calls}
use Rattle.sl_model.specs.Rows.{entry, entries}
use Rattle.sl_value.specs.Counted.{value_read, counted, counters}
use Rattle.sl_value.specs.declared.whole.Whole.{Whole}
use Rattle.sl_saves.proofs.Places.{below-le, below-twice, below-mod}
use Rattle.sl_saves.proofs.Walking.{path-below}

-- A loop that walks back over a view to the value of a number.

-- Paths.

abbrev AllLive : List Place → Type 0
AllLive ps = AllByRecursion (λ p. 1 ≤ p.slot.back) ps

abbrev pub told : List Place → Whole
told ps = counters (last_place ps)

-- a path from a number begins at its slot, and goes on from the number before
pub path-on : (n : ℕ) (slot : ℕ → Slot) (k number : ℕ) (s : Slot) → slot number ≡ s → k < number
    → path (suc n) slot number k ≡ record { number = number; slot = s } ∷ path n slot (number - s.back) k
path-on n slot k number s g q = rw (le-ltb number k (omega (arith, q)), ne_eqb number k (λ e. omega (arith, e, q)))
    (ap (λ x. record { number = number; slot = x } ∷ path n slot (number - x.back) k) g)

path-at : (n : ℕ) (slot : ℕ → Slot) (k number : ℕ) (s : Slot) → slot number ≡ s → number ≡ k → path (suc n) slot number k ≡ record { number = number; slot = s } ∷ []
path-at n slot k number s g q = rw (le-ltb number k (omega (arith, q)), eq-eqb number k q) (ap (λ x. record { number = number; slot = x } ∷ []) g)

path-head : (n : ℕ) (slot : ℕ → Slot) (k number : ℕ) → k ≤ number
    → path (suc n) slot number k ≡ record { number = number; slot = slot number } ∷ cond (number == k) [] (path n slot (number - (slot number).back) k)
path-head n slot k number h = rw (le-ltb number k h) refl

-- where the number before lies below k it ends there
pub path-last : (n : ℕ) (slot : ℕ → Slot) (k number : ℕ) (s : Slot) → slot number ≡ s → 1 ≤ k → k ≤ number → number - k < s.back
    → path (suc n) slot number k ≡ record { number = number; slot = s } ∷ []
path-last n slot k number s g one h b = by_cases (cases_lt k number)
  where
    by_cases : ((k < number) ⊎ (number ≤ k)) → path (suc n) slot number k ≡ record { number = number; slot = s } ∷ []
    by_cases (inl q) = path-on n slot k number s g q ∙ ap (λ ps. record { number = number; slot = s } ∷ ps) (path-below n slot k (number - s.back) (omega (arith, b, q, one)))
    by_cases (inr q) = path-at n slot k number s g (omega (arith, q, h))

-- a path from k on has a place, and is told as by what follows
pub path-some : (n : ℕ) (slot : ℕ → Slot) (k number : ℕ) (p : Place) → k ≤ number → told (p ∷ path (suc n) slot number k) ≡ told (path (suc n) slot number k)
path-some n slot k number p h = rw (le-ltb number k h) refl

-- The loop has come down to a number, at a place.
pub record IsReading (view : View) (id k number place : ℕ) : Type 0 where
  pub above : k ≤ number
  pub upto : number ≤ id
  pub inside : place < length view.slots
  pub place_is : place ≡ place_below (length view.slots) view.at (id - number)
  pub fuel : ℕ
  pub enough : number ≤ fuel + k
  pub live : AllLive (path (suc fuel) (slot_in view id) number k)
  pub rest : told (path (suc fuel) (slot_in view id) number k) ≡ value_read view id k

pub reading-start : (view : View) (id k : ℕ) → k ≤ id → view.at < length view.slots → IsLive view id k → IsReading view id k id view.at
reading-start view id k h a l = record {
  above = h;
  upto = omega arith;
  inside = a;
  place_is = let z : 0 ≡ id - id = omega arith in sym (below-le (length view.slots) view.at 0 (omega arith) ∙ (omega arith)) ∙ ap (place_below (length view.slots) view.at) z;
  fuel = id - k;
  enough = omega (arith, h);
  live = l;
  rest = refl;
}

module _ (view : View) (id k number place : ℕ) (s : Slot) (w : IsReading view id k number place) (g : s ≡ slice_index_or view.slots place no_slot) where
  slot-is : slot_in view id number ≡ s
  slot-is = ap (λ p. slice_index_or view.slots p no_slot) (sym w.place_is) ∙ sym g

  -- the slot is live
  pub reading-live : 1 ≤ s.back
  reading-live = subst (λ (x : Slot). 1 ≤ x.back) slot-is (subst AllLive (path-head w.fuel (slot_in view id) k number w.above) w.live).0

  -- where the number before lies below k
  pub reading-last : 1 ≤ k → number - k < s.back → counters (Some (record { number = number; slot = s })) ≡ value_read view id k
  reading-last one b = sym (ap told (path-last w.fuel (slot_in view id) k number s slot-is one w.above b)) ∙ w.rest

  -- where it goes on
  pub reading-step : (after : ℕ) → view.at < length view.slots → id < k + length view.slots → s.back ≤ number - k → after ≡ place_below (length view.slots) place s.back
      → after < length view.slots → IsReading view id k (number - s.back) after
  reading-step after h l b a inside = by_fuel w.fuel w.enough w.live w.rest
    where
      above : k < number
      above = let one = reading-live in omega (arith, one, b)

      by_fuel : (n : ℕ) → number ≤ n + k → AllLive (path (suc n) (slot_in view id) number k) → told (path (suc n) (slot_in view id) number k) ≡ value_read view id k
          → IsReading view id k (number - s.back) after
      by_fuel zero e live rest = let q = above in absurd (omega (arith, e, q))
      by_fuel (suc n) e live rest =
          let one = reading-live in
          let u : number ≤ id = w.upto in
          let q = above in
          let p = path-on (suc n) (slot_in view id) k number s slot-is q in
          let d : (id - number) + s.back ≡ id - (number - s.back) = omega (arith, u, b, q) in
          record {
            above = omega (arith, b, q);
            upto = omega (arith, u);
            inside = inside;
            place_is = a ∙ ap (λ p. place_below (length view.slots) p s.back) w.place_is
                ∙ below-twice (length view.slots) view.at (id - number) s.back h (omega (arith, u, b, q, l)) ∙ ap (place_below (length view.slots) view.at) d;
            fuel = n;
            enough = omega (arith, e, one, b, q);
            live = (subst AllLive p live).1;
            rest = sym (path-some n (slot_in view id) k (number - s.back) (record { number = number; slot = s }) (omega (arith, b, q))) ∙ sym (ap told p) ∙ rest;
          }

-- Lists of numbers.

weaken : (P Q R : ℕ → Type 0) → ((j : ℕ) → P j → Q j → R j) → (js : List ℕ) → AllByRecursion P js → AllByRecursion Q js → AllByRecursion R js
weaken P Q R f [] p q = tt
weaken P Q R f (j ∷ js) p q = (f j p.0 q.0, weaken P Q R f js p.1 q.1)

of-map : (P : Save → Type 0) (f : ℕ → Save) (js : List ℕ) → AllByRecursion P (map f js) → AllByRecursion (λ j. P (f j)) js
of-map P f [] h = tt
of-map P f (j ∷ js) h = (h.0, of-map P f js h.1)

-- Ids.

pub before-step : (k : ℕ) (s : Step) (h : History) → k ≤ id (s ∷ h) → before k (s ∷ h) ≡ before k h
before-step k s h q = rw (le-ltb (id (s ∷ h)) k q) refl

before-all : (k : ℕ) (h : History) → id h < k → before k h ≡ h
before-all k [] q = refl
before-all k (s ∷ h) q = rw (lt-ltb (id (s ∷ h)) k q) refl

adopted-below : (h : History) (m : ℕ) → id h ≤ m → AllByRecursion (λ j. j ≤ m) (adopted h)
adopted-below [] m q = tt
adopted-below (s ∷ h) m q = by_cases (cases_lt (id h) (id (s ∷ h))) (adopted-below h m (omega (arith, q)))
  where
    by_cases : ((id h < id (s ∷ h)) ⊎ (id (s ∷ h) ≤ id h)) → AllByRecursion (λ j. j ≤ m) (adopted h) → AllByRecursion (λ j. j ≤ m) (adopted (s ∷ h))
    by_cases (inl l) ih = rw (lt-ltb (id h) (id (s ∷ h)) l) (q, ih)
    by_cases (inr l) ih = rw (le-ltb (id h) (id (s ∷ h)) l) ih

-- A slot of an adopted number holds what was counted before, and how far the number before lies below.

record IsHeld (slot : ℕ → Slot) (h : History) (j : ℕ) : Type 0 where
  back : (slot j).back ≡ j - id (before j h)
  packets_are : (slot j).packets ≡ packets (before j h)
  bytes_are : (slot j).bytes ≡ bytes (before j h)

abbrev AreHeld : (ℕ → Slot) → ℕ → History → List ℕ → Type 0
AreHeld slot k h js = AllByRecursion (λ j. k ≤ j → IsHeld slot h j) js

held-older : (slot : ℕ → Slot) (s : Step) (h : History) (j : ℕ) → j ≤ id h → IsHeld slot (s ∷ h) j → IsHeld slot h j
held-older slot s h j q x = let e : before j (s ∷ h) ≡ before j h = before-step j s h (omega (arith, q)) in
    record { back = x.back ∙ ap (λ g. j - id g) e; packets_are = x.packets_are ∙ ap packets e; bytes_are = x.bytes_are ∙ ap bytes e }

all-older : (slot : ℕ → Slot) (k : ℕ) (s : Step) (h : History) → AreHeld slot k (s ∷ h) (adopted h) → AreHeld slot k h (adopted h)
all-older slot k s h x = weaken (λ j. j ≤ id h) (λ j. k ≤ j → IsHeld slot (s ∷ h) j) (λ j. k ≤ j → IsHeld slot h j) (λ j q f le. held-older slot s h j q (f le))
    (adopted h) (adopted-below h (id h) (omega arith)) x

-- the walk from the id is told as what was counted
abbrev IsWalked : (ℕ → Slot) → ℕ → History → Type 0
IsWalked slot k h = (n : ℕ) → k ≤ id h → id h < n + k → AreHeld slot k h (adopted h) → told (path n slot (id h) k) ≡ counted k h

walked : (n : ℕ) (slot : ℕ → Slot) (k : ℕ) (h : History) → 1 ≤ k → k ≤ id h → id h < n + k → AreHeld slot k h (adopted h) → told (path n slot (id h) k) ≡ counted k h
walked n slot k [] one le few x = absurd (omega (arith, one, le))
walked n slot k (s ∷ h) one le few x = by_cases (cases_lt (id h) (id (s ∷ h))) (λ m a b y. walked m slot k h one a b y)
  where
    same : counted k (s ∷ h) ≡ counted k h
    same = ap (λ g. record { packets = packets g; bytes = bytes g }) (before-step k s h le)

    -- the id rose
    rose : (m : ℕ) → id h < id (s ∷ h) → id (s ∷ h) < m + k → IsHeld slot (s ∷ h) (id (s ∷ h)) → AreHeld slot k (s ∷ h) (adopted h) → IsWalked slot k h → told (path m slot (id (s ∷ h)) k) ≡ counted k (s ∷ h)
    rose zero l f y ys ih = absurd (omega (arith, f, le))
    rose (suc m) l f y ys ih = by_order (cases_lt (id h) k)
      where
        here : before (id (s ∷ h)) (s ∷ h) ≡ h
        here = before-step (id (s ∷ h)) s h (omega arith) ∙ before-all (id (s ∷ h)) h l

        back : (slot (id (s ∷ h))).back ≡ id (s ∷ h) - id h
        back = y.back ∙ ap (λ g. id (s ∷ h) - id g) here

        by_order : ((id h < k) ⊎ (k ≤ id h)) → told (path (suc m) slot (id (s ∷ h)) k) ≡ counted k (s ∷ h)
        by_order (inl q) = ap told (path-last m slot k (id (s ∷ h)) (slot (id (s ∷ h))) refl one le (let b = back in omega (arith, b, q, le, l)))
            ∙ (λ i. record { packets = (y.packets_are ∙ ap packets here) i; bytes = (y.bytes_are ∙ ap bytes here) i })
            ∙ sym (same ∙ ap (λ g. record { packets = packets g; bytes = bytes g }) (before-all k h q))
        by_order (inr q) = by_fuel m (omega (arith, f, q, l))
          where
            by_fuel : (m : ℕ) → id h < m + k → told (path (suc m) slot (id (s ∷ h)) k) ≡ counted k (s ∷ h)
            by_fuel zero g = absurd (omega (arith, g, q))
            by_fuel (suc m) g =
                let e : id (s ∷ h) - (slot (id (s ∷ h))).back ≡ id h = let b = back in omega (arith, b, l) in
                ap told (path-on (suc m) slot k (id (s ∷ h)) (slot (id (s ∷ h))) refl (omega (arith, q, l)))
                ∙ ap (λ n. told (record { number = id (s ∷ h); slot = slot (id (s ∷ h)) } ∷ path (suc m) slot n k)) e
                ∙ path-some m slot k (id h) (record { number = id (s ∷ h); slot = slot (id (s ∷ h)) }) q
                ∙ ih (suc m) q g (all-older slot k s h ys) ∙ sym same

    by_cases : ((id h < id (s ∷ h)) ⊎ (id (s ∷ h) ≤ id h)) → IsWalked slot k h → told (path n slot (id (s ∷ h)) k) ≡ counted k (s ∷ h)
    by_cases (inl l) ih = let y : AreHeld slot k (s ∷ h) (id (s ∷ h) ∷ adopted h) = rw (lt-ltb (id h) (id (s ∷ h)) l) at x in rose n l few (y.0 le) y.1 ih
    by_cases (inr l) ih = let e : id (s ∷ h) ≡ id h = omega (arith, l) in
        let y : AreHeld slot k (s ∷ h) (adopted h) = rw (le-ltb (id h) (id (s ∷ h)) l) at x in
        ap (λ n'. told (path n slot n' k)) e ∙ ih n (omega (arith, e, le)) (omega (arith, e, few)) (all-older slot k s h y) ∙ sym same

-- What is shown is held.

abbrev pub Entries : Type 0
Entries = (n : ℕ) (cs : List ℕ) (h : History) → saves n (calls cs h) ≡ entries n cs h

module _ (n : ℕ) (cs : List ℕ) (h : History) (view : View) (k : ℕ) (shown : IsShown n view (calls cs h)) (is_entries : saves n (calls cs h) ≡ entries n cs h) (is_id : number (calls cs h) ≡ id h) where
  at-id : view.at ≡ id h % length view.slots
  at-id = shown.at ∙ ap (λ j. j % length view.slots) is_id

  seen : AllByRecursion (λ j. IsSeen view.slots (id h) (entry n cs h j)) (adopted h)
  seen = of-map (IsSeen view.slots (id h)) (entry n cs h) (adopted h)
      (subst (AllByRecursion (IsSeen view.slots (id h))) is_entries (subst (λ j. AllByRecursion (IsSeen view.slots j) (saves n (calls cs h))) is_id shown.seen))

  held : (j : ℕ) → id h < k + length view.slots → j ≤ id h → IsSeen view.slots (id h) (entry n cs h j) → k ≤ j → IsHeld (slot_in view (id h)) h j
  held j near below is q =
      let at : slot_in view (id h) j ≡ slot_of (entry n cs h j) =
      ap (λ a. slice_index_or view.slots (place_below (length view.slots) a (id h - j)) no_slot) at-id
      ∙ ap (λ p. slice_index_or view.slots p no_slot) (below-mod (length view.slots) (id h) j below (omega (arith, near, q))) ∙ is (omega (arith, near, q)) in
      record { back = ap (λ (x : Slot). x.back) at; packets_are = ap (λ (x : Slot). x.packets) at; bytes_are = ap (λ (x : Slot). x.bytes) at }

  pub shown-counted : 1 ≤ k → k ≤ id h → id h < k + length view.slots → value_read view (id h) k ≡ counted k h
  shown-counted one le near = walked (suc (id h - k)) (slot_in view (id h)) k h one le (omega (arith, le))
      (weaken (λ j. j ≤ id h) (λ j. IsSeen view.slots (id h) (entry n cs h j)) (λ j. k ≤ j → IsHeld (slot_in view (id h)) h j) (λ j b is. held j near b is) (adopted h) (adopted-below h (id h) (omega arith)) seen)
