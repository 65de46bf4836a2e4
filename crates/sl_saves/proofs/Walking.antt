-- A loop that walks back over a view.
use Rattle.std.proofs.Common.{◌≡◌, ℕ, zero, suc, ◌+◌, ◌-◌, ◌<◌, ◌≤◌, ◌↔◌, List, [], ◌∷◌, length, refl, sym, ap, subst, ◌∙◌, Option, Some, None, arith}
use Rattle.std.specs.Prelude.{cond, true, false, Bool, nat_lt, filter, unwrap_or, slice_index_or}
use Rattle.std.specs.List.{AllByRecursion}
use Rattle.std.proofs.lemmas.Bool.{lt-ltb, le-ltb, eq-eqb, ne_eqb}
use Rattle.sl_saves.specs.declared.entry.Slot.{Slot}
use Rattle.sl_saves.specs.declared.entry.View.{View}
use Rattle.sl_saves.specs.declared.entry.Saved.{Saved}
use Rattle.sl_saves.specs.declared.entry.Saved.TheVariants.{Skipped}
use Rattle.sl_saves.specs.Views.{Place, path, slot_in, place_below, no_slot, IsLive, find_place, last_place, is_bad, place_number_or, answer, read}
use Rattle.sl_saves.specs.Walks.{stopped}
use Rattle.sl_saves.proofs.Places.{below-none, below-inside, below-twice}

-- the answer from the places that are left, where the walk has come down from `to`, and has met a miscredit or none

abbrev told : Option Place → Option (ℕ × ℕ) → ℕ → Saved
told None bad to = Skipped to
told (Some p) bad to = stopped p.slot bad

abbrev mark_or : Option (ℕ × ℕ) → Option Place → Option (ℕ × ℕ)
mark_or bad None = bad
mark_or bad (Some p) = Some (p.number, p.slot.reach)

abbrev rest_of : ℕ → ℕ → Option (ℕ × ℕ) → List Place → Saved
rest_of k to bad ps = told (find_place k ps) (mark_or bad (last_place (filter (is_bad k) ps))) (place_number_or to (last_place ps))

abbrev AllLive : List Place → Type 0
AllLive ps = AllByRecursion (λ p. 1 ≤ p.slot.back) ps

-- the walk has come down to a number, at a place
pub record IsWalking (view : View) (id k number place : ℕ) (bad : Option (ℕ × ℕ)) : Type 0 where
  pub above : k ≤ number
  pub upto : number ≤ id
  pub inside : place < length view.slots
  pub place_is : place ≡ place_below (length view.slots) view.at (id - number)
  pub fuel : ℕ
  pub enough : number ≤ fuel + k
  pub to : ℕ
  pub live : AllLive (path (suc fuel) (slot_in view id) number k) ↔ IsLive view id k
  pub rest : rest_of k to bad (path (suc fuel) (slot_in view id) number k) ≡ read view id k

told-answer : (f b l : Option Place) → told f (mark_or None b) (place_number_or 0 l) ≡ answer f b l
told-answer None b l = refl
told-answer (Some p) None l = refl
told-answer (Some p) (Some b) l = refl

pub walking-start : (view : View) (id k : ℕ) → k ≤ id → view.at < length view.slots → IsWalking view id k id view.at None
walking-start view id k h a = record {
  above = h;
  upto = omega arith;
  inside = a;
  place_is = let z : 0 ≡ id - id = omega arith in sym (below-none (length view.slots) view.at) ∙ ap (place_below (length view.slots) view.at) z;
  fuel = id - k;
  enough = omega (arith, h);
  to = 0;
  live = (λ x. x, λ x. x);
  rest = let ps : List Place = path (suc (id - k)) (slot_in view id) id k in told-answer (find_place k ps) (last_place (filter (is_bad k) ps)) (last_place ps);
}

-- the path from a number above k, from k, and from below it

path-on : (n : ℕ) (slot : ℕ → Slot) (k number : ℕ) (s : Slot) → slot number ≡ s → k < number
    → path (suc n) slot number k ≡ record { number = number; slot = s } ∷ path n slot (number - s.back) k
path-on n slot k number s g q = rw (le-ltb number k (omega (arith, q)), ne_eqb number k (λ e. omega (arith, e, q)))
    (ap (λ x. record { number = number; slot = x } ∷ path n slot (number - x.back) k) g)

path-at : (n : ℕ) (slot : ℕ → Slot) (k number : ℕ) (s : Slot) → slot number ≡ s → number ≡ k → path (suc n) slot number k ≡ record { number = number; slot = s } ∷ []
path-at n slot k number s g q = rw (le-ltb number k (omega (arith, q)), eq-eqb number k q) (ap (λ x. record { number = number; slot = x } ∷ []) g)

pub path-below : (n : ℕ) (slot : ℕ → Slot) (k number : ℕ) → number < k → path n slot number k ≡ []
path-below zero slot k number q = refl
path-below (suc n) slot k number q = rw (lt-ltb number k q) refl

-- one place more

mark-more : (b : Bool) (bad : Option (ℕ × ℕ)) (p : Place) (ps : List Place)
    → mark_or bad (last_place (cond b (p ∷ ps) ps)) ≡ mark_or (cond b (Some (p.number, p.slot.reach)) bad) (last_place ps)
mark-more true bad p ps = by_last (last_place ps)
  where
    by_last : (o : Option Place) → mark_or bad (Some (unwrap_or o p)) ≡ mark_or (Some (p.number, p.slot.reach)) o
    by_last None = refl
    by_last (Some q) = refl
mark-more false bad p ps = refl

number-more : (to : ℕ) (p : Place) (o : Option Place) → place_number_or to (Some (unwrap_or o p)) ≡ place_number_or p.number o
number-more to p None = refl
number-more to p (Some q) = refl

rest-on : (k to number : ℕ) (bad : Option (ℕ × ℕ)) (s : Slot) (ps : List Place) → k < number
    → rest_of k to bad (record { number = number; slot = s } ∷ ps) ≡ rest_of k number (cond (nat_lt (number - k) s.reach) (Some (number, s.reach)) bad) ps
rest-on k to number bad s ps q = let p : Place = record { number = number; slot = s } in
    rw (ne_eqb number k (λ e. omega (arith, e, q)), lt-ltb k number q)
    (λ i. told (find_place k ps) (mark-more (nat_lt (number - k) s.reach) bad p (filter (is_bad k) ps) i) (number-more to p (last_place ps) i))

module _ (view : View) (id k number place : ℕ) (bad : Option (ℕ × ℕ)) (s : Slot) (w : IsWalking view id k number place bad) (g : s ≡ slice_index_or view.slots place no_slot) where
  -- the slot read is the one of the number
  slot-is : slot_in view id number ≡ s
  slot-is = ap (λ p. slice_index_or view.slots p no_slot) (sym w.place_is) ∙ sym g

  on : k < number → path (suc w.fuel) (slot_in view id) number k ≡ record { number = number; slot = s } ∷ path w.fuel (slot_in view id) (number - s.back) k
  on q = path-on w.fuel (slot_in view id) k number s slot-is q

  at : number ≡ k → path (suc w.fuel) (slot_in view id) number k ≡ record { number = number; slot = s } ∷ []
  at q = path-at w.fuel (slot_in view id) k number s slot-is q

  passed : k < number → number - k < s.back → 1 ≤ k → path (suc w.fuel) (slot_in view id) number k ≡ record { number = number; slot = s } ∷ []
  passed q b one = on q ∙ ap (λ ps. record { number = number; slot = s } ∷ ps) (path-below w.fuel (slot_in view id) k (number - s.back) (omega (arith, b, q, one)))

  -- where it passes below that number
  pub walking-passed : k < number → number - k < s.back → 1 ≤ k → Skipped number ≡ read view id k
  walking-passed q b one = sym (rest-on k w.to number bad s [] q) ∙ sym (ap (rest_of k w.to bad) (passed q b one)) ∙ w.rest

  pub passed-live : k < number → number - k < s.back → 1 ≤ k → 1 ≤ s.back → IsLive view id k
  passed-live q b one h = w.live.0 (subst AllLive (sym (passed q b one)) (h, tt))

  -- where it goes on
  pub walking-step : (after : ℕ) (then : Option (ℕ × ℕ)) → view.at < length view.slots → id < k + length view.slots → k < number → 1 ≤ s.back → s.back ≤ number - k
      → after ≡ place_below (length view.slots) place s.back → then ≡ cond (nat_lt (number - k) s.reach) (Some (number, s.reach)) bad
      → IsWalking view id k (number - s.back) after then
  walking-step after then h l q one b a t = by_fuel w.fuel w.enough (on q) w.live w.rest
    where
      by_fuel : (n : ℕ) → number ≤ n + k → path (suc n) (slot_in view id) number k ≡ record { number = number; slot = s } ∷ path n (slot_in view id) (number - s.back) k
          → (AllLive (path (suc n) (slot_in view id) number k) ↔ IsLive view id k) → rest_of k w.to bad (path (suc n) (slot_in view id) number k) ≡ read view id k
          → IsWalking view id k (number - s.back) after then
      by_fuel zero e p live rest = absurd (omega (arith, e, q))
      by_fuel (suc n) e p live rest =
          let u : number ≤ id = w.upto in
          let d : (id - number) + s.back ≡ id - (number - s.back) = omega (arith, u, b, q) in
          let place_is : after ≡ place_below (length view.slots) view.at (id - (number - s.back)) = a ∙ ap (λ p. place_below (length view.slots) p s.back) w.place_is
          ∙ below-twice (length view.slots) view.at (id - number) s.back h (omega (arith, u, b, q, l)) ∙ ap (place_below (length view.slots) view.at) d in
          record {
            above = omega (arith, b, q);
            upto = omega (arith, u);
            inside = subst (λ p. p < length view.slots) (sym place_is) (below-inside (length view.slots) view.at (id - (number - s.back)) h (omega (arith, u, b, q, l)));
            place_is = place_is;
            fuel = n;
            enough = omega (arith, e, one, b, q);
            to = number;
            live = (λ x. live.0 (subst AllLive (sym p) (one, x)), λ x. (subst AllLive p (live.1 x)).1);
            rest = ap (λ o. rest_of k number o (path (suc n) (slot_in view id) (number - s.back) k)) t
                ∙ sym (rest-on k w.to number bad s (path (suc n) (slot_in view id) (number - s.back) k) q) ∙ sym (ap (rest_of k w.to bad) p) ∙ rest;
          }
