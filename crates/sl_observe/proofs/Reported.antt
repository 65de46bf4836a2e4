-- Where the rows that the observer has collected came from.
use Rattle.std.proofs.Common.{◌≡◌, ◌≢◌, ℕ, zero, suc, ◌+◌, ◌-◌, ◌⊎◌, inl, inr, List, [], ◌∷◌, ◌++◌, length, refl, sym, ap, ◌∙◌, map, set, get_or-set_same, get_or-set_other, arith}
use Rattle.std.specs.Prelude.{Bool, true, false, cond, ◌&&◌, ◌==◌, Some, None, slice_get, nat_le}
use Rattle.std.proofs.lemmas.Bool.{cases_eq, cases_lt, and_parts, eqb-true, eqb-false}
use Rattle.std.proofs.lemmas.List.{set_past}
use Rattle.sl_machine.specs.Turns.{Turn, Took, Acted, after_turn, after}
use Rattle.sl_saves.specs.declared.entry.Saved.{Saved}
use Rattle.sl_wire.specs.declared.message.Done.{Done as Report}
use Rattle.sl_wire.specs.declared.message.Msg.{Msg}
use Rattle.sl_wire.specs.declared.message.Msg.TheVariants.{Frame, Wire, Poll, Notice, Dump, Begin, Done}
use Rattle.sl_observe.specs.Observer.{UnitState, ObserverState, new_unit, unit_at, saved_of, is_after, is_next, told, after_done, units_after, observer_act, observer_rules}
use Rattle.sl_observe.specs.Turns.{Reports, IsReported}
use Rattle.sl_observe.proofs.Runs.{units_stay}

-- the Done has this row for this number
abbrev Has : Report → ℕ → Saved → Type 0
Has d k r = (i : ℕ) × (slice_get d.rows i ≡ Some (k, r))

from_parts : (xs ys : List Saved) (j : ℕ) (r : Saved) → slice_get (xs ++ ys) j ≡ Some r → (slice_get xs j ≡ Some r) ⊎ ((i : ℕ) × ((j ≡ length xs + i) × (slice_get ys i ≡ Some r)))
from_parts [] ys j r e = inr (j, (omega arith, e))
from_parts (x ∷ xs) ys zero r e = inl e
from_parts (x ∷ xs) ys (suc j) r e = elim (from_parts xs ys j r e) [ inl f ↦ inl f | inr f ↦ inr (f.0, (let h = f.1.0 in omega (arith, h), f.1.1)) ]

numbered : (ps : List (ℕ × Saved)) (n i : ℕ) (r : Saved) → is_after n ps ≡ true → slice_get (map (λ p. p.1) ps) i ≡ Some r → slice_get ps i ≡ Some (suc (n + i), r)
numbered [] n i r after e = cc
numbered (p ∷ ps) n zero r after e =
    let parts = and_parts (p.0 == suc n) (is_after (suc n) ps) after in
    let number = eqb-true p.0 (suc n) parts.0 in
    let here : p.0 ≡ suc (n + 0) = omega (arith, number) in
    ap (λ m. Some (m, p.1)) here ∙ ap (λ x. Some (suc (n + 0), x)) (same p.1 r e)
  where
    same : (x y : Saved) → Some x ≡ Some y → x ≡ y
    same x y e = cc
numbered (p ∷ ps) n (suc i) r after e =
    let parts = and_parts (p.0 == suc n) (is_after (suc n) ps) after in
    let here : suc n + i ≡ n + suc i = omega arith in
    numbered ps (suc n) i r parts.1 e ∙ ap (λ m. Some (suc m, r)) here

told_from : (d : Report) (v : UnitState) (k : ℕ) (r : Saved) → is_after (length v.rows) d.rows ≡ true → saved_of (told d v) k ≡ Some r → (saved_of v k ≡ Some r) ⊎ Has d k r
told_from d v k r after e = by_zero (k == 0) refl e
  where
    by_zero : (b : Bool) → (k == 0) ≡ b → cond b None (slice_get (told d v).rows (k - 1)) ≡ Some r → (cond b None (slice_get v.rows (k - 1)) ≡ Some r) ⊎ Has d k r
    by_zero true z e = cc
    by_zero false z e =
        let some : k ≢ 0 = eqb-false k 0 z in
        elim (from_parts v.rows (map (λ p. p.1) d.rows) (k - 1) r e) [
          | inl f ↦ inl f
          | inr f ↦ let h = f.1.0 in let number : suc (length v.rows + f.0) ≡ k = omega (arith, h, some) in inr (f.0, numbered d.rows (length v.rows) f.0 r after f.1.1 ∙ ap (λ m. Some (m, r)) number)
        ]

heard_from : (ring link : ℕ) (d : Report) (v : UnitState) (k : ℕ) (r : Saved) → saved_of (after_done ring link d v) k ≡ Some r → (saved_of v k ≡ Some r) ⊎ Has d k r
heard_from ring link d v k r e = by_test ((v.device == link) && is_next ring v d) refl e
  where
    by_test : (b : Bool) → ((v.device == link) && is_next ring v d) ≡ b → saved_of (cond b (told d v) v) k ≡ Some r → (saved_of v k ≡ Some r) ⊎ Has d k r
    by_test true t e =
        let next = (and_parts (v.device == link) (is_next ring v d) t).1 in
        told_from d v k r (and_parts (nat_le (length d.rows) ring) (is_after (length v.rows) d.rows) next).1 e
    by_test false t e = inl e

units_from : (ring link : ℕ) (d : Report) (us : List UnitState) (u k : ℕ) (r : Saved) → saved_of (unit_at (units_after ring link d us) u) k ≡ Some r
    → (saved_of (unit_at us u) k ≡ Some r) ⊎ ((d.unit ≡ u) × Has d k r)
units_from ring link d us u k r e =
    let none = new_unit 0 0 in
    let w = after_done ring link d (unit_at us d.unit) in
    elim (cases_eq u d.unit) [
      | inl same ↦ elim (cases_lt d.unit (length us)) [
        | inl g ↦
            let now : unit_at (set us d.unit w) u ≡ w = ap (unit_at (set us d.unit w)) same ∙ get_or-set_same us d.unit w none g in
            elim (heard_from ring link d (unit_at us d.unit) k r (ap (λ v. saved_of v k) (sym now) ∙ e)) [
              | inl f ↦ inl (ap (λ p. saved_of (unit_at us p) k) same ∙ f)
              | inr f ↦ inr (sym same, f)
            ]
        | inr g ↦ inl (ap (λ vs. saved_of (unit_at vs u) k) (sym (set_past us d.unit w g)) ∙ e)
      ]
      | inr other ↦ inl (ap (λ v. saved_of v k) (sym (get_or-set_other us d.unit u w none other)) ∙ e)
    ]

turn_from : (s : ObserverState) (t : Turn Msg) (u k : ℕ) (r : Saved) → saved_of (unit_at (after_turn observer_rules s t).state.units u) k ≡ Some r → (saved_of (unit_at s.units u) k ≡ Some r) ⊎ Reports t u k r
turn_from s (Took link (Wire b)) u k r e = inl e
turn_from s (Took link (Frame f)) u k r e = inl e
turn_from s (Took link (Poll _)) u k r e = inl e
turn_from s (Took link Notice) u k r e = inl e
turn_from s (Took link (Dump d)) u k r e = inl e
turn_from s (Took link (Begin n)) u k r e = inl e
turn_from s (Took link (Done d)) u k r e = units_from s.snapshot.ring link d s.units u k r e
turn_from s (Acted action) u k r e = inl (ap (λ us. saved_of (unit_at us u) k) (sym (units_stay s action (observer_act s action) refl)) ∙ e)

pub rows_are_reported : (s : ObserverState) (ts : List (Turn Msg)) (u k : ℕ) (r : Saved) → saved_of (unit_at (after observer_rules s ts).state.units u) k ≡ Some r → (saved_of (unit_at s.units u) k ≡ Some r) ⊎ IsReported ts u k r
rows_are_reported s [] u k r e = inl e
rows_are_reported s (t ∷ ts) u k r e =
    elim (rows_are_reported (after_turn observer_rules s t).state ts u k r e) [
      | inl f ↦ elim (turn_from s t u k r f) [ inl g ↦ inl g | inr g ↦ inr (inl g) ]
      | inr f ↦ inr (inr f)
    ]
