-- The observer over any turns.
use Rattle.std.proofs.Common.{◌≡◌, ℕ, zero, suc, ◌+◌, ◌-◌, ◌<◌, ◌≤◌, ◌⊎◌, inl, inr, List, [], ◌∷◌, ◌++◌, length, refl, sym, ap, ◌∙◌, subst, map, set, get_or-set_same, get_or-set_other, arith}
use Rattle.std.specs.Prelude.{Bool, true, false, cond, ◌&&◌, ◌==◌, Option, Some, None, slice_get, nat_lt, nat_le}
use Rattle.std.specs.List.{All, range_with_len}
use Rattle.std.proofs.lemmas.Bool.{cases_eq, cases_lt, and_parts, ltb-true, leb-true}
use Rattle.std.proofs.lemmas.List.{set_past}
use Rattle.std.proofs.lemmas.List.Elements.{All-nil, All-cons}
use Rattle.sl_machine.specs.Machine.{After}
use Rattle.sl_machine.specs.Turns.{Turn, Took, Acted, acted, after_turn, after}
use Rattle.sl_saves.specs.declared.entry.Saved.{Saved}
use Rattle.sl_wire.specs.declared.message.Done.{Done as Report}
use Rattle.sl_wire.specs.declared.message.Msg.{Msg}
use Rattle.sl_wire.specs.declared.message.Msg.TheVariants.{Frame, Wire, Poll, Notice, Dump, Begin, Done}
use Rattle.sl_observe.specs.Observer.{UnitState, ObserverState, new_unit, unit_at, saved_of, register_floor, told, after_done, is_next, units_after, registers_can_issue, registers_can_resend, begins_out, observer_act, observer_rules}

-- Rows.

slice_get_front : (xs ys : List Saved) (n : ℕ) (r : Saved) → slice_get xs n ≡ Some r → slice_get (xs ++ ys) n ≡ Some r
slice_get_front [] ys n r e = cc
slice_get_front (x ∷ xs) ys zero r e = e
slice_get_front (x ∷ xs) ys (suc n) r e = slice_get_front xs ys n r e

told_keeps : (d : Report) (v : UnitState) (k : ℕ) (r : Saved) → saved_of v k ≡ Some r → saved_of (told d v) k ≡ Some r
told_keeps d v k r = elim (k == 0) as (λ b. cond b None (slice_get v.rows (k - 1)) ≡ Some r → cond b None (slice_get (told d v).rows (k - 1)) ≡ Some r)
    [ true ↦ λ e. e | false ↦ λ e. slice_get_front v.rows (map (λ p. p.1) d.rows) (k - 1) r e ]

heard_keeps : (ring link : ℕ) (d : Report) (v : UnitState) (k : ℕ) (r : Saved) → saved_of v k ≡ Some r → saved_of (after_done ring link d v) k ≡ Some r
heard_keeps ring link d v k r e = elim ((v.device == link) && is_next ring v d) as (λ b. saved_of (cond b (told d v) v) k ≡ Some r) [ true ↦ told_keeps d v k r e | false ↦ e ]

units_keep : (ring link : ℕ) (d : Report) (us : List UnitState) (u k : ℕ) (r : Saved) → saved_of (unit_at us u) k ≡ Some r → saved_of (unit_at (units_after ring link d us) u) k ≡ Some r
units_keep ring link d us u k r e =
    let none = new_unit 0 0 in
    let w = after_done ring link d (unit_at us d.unit) in
    elim (cases_eq u d.unit) [
      | inl same ↦ elim (cases_lt d.unit (length us)) [
        | inl g ↦
            let now : unit_at (set us d.unit w) u ≡ w = ap (unit_at (set us d.unit w)) same ∙ get_or-set_same us d.unit w none g in
            ap (λ v. saved_of v k) now ∙ heard_keeps ring link d (unit_at us d.unit) k r (ap (λ p. saved_of (unit_at us p) k) (sym same) ∙ e)
        | inr g ↦ ap (λ vs. saved_of (unit_at vs u) k) (set_past us d.unit w g) ∙ e
      ]
      | inr other ↦ ap (λ v. saved_of v k) (get_or-set_other us d.unit u w none other) ∙ e
    ]

-- Actions.

abbrev issued : ObserverState → After ObserverState Msg
issued s = record { state = record s { issued = suc s.issued }; puts = begins_out s.outs (suc s.issued) }

abbrev resent : ObserverState → After ObserverState Msg
resent s = record { state = record s { resent = suc s.resent }; puts = begins_out s.outs s.issued }

-- an action that does something issues or resends
data Did (s : ObserverState) (next : After ObserverState Msg) : Type 0 where
  Issued : registers_can_issue s ≡ true → next ≡ issued s → Did s next
  Resent : next ≡ resent s → Did s next

some_is : {A : Type 0} (b : Bool) (x y : A) → cond b (Some x) None ≡ Some y → (b ≡ true) × (y ≡ x)
some_is true x y e = (refl, cc)
some_is false x y e = cc

did : (s : ObserverState) (action : ℕ) (next : After ObserverState Msg) → observer_act s action ≡ Some next → Did s next
did s action next =
    elim (action == s.ins) as (λ a. cond a (cond (registers_can_issue s) (Some (issued s)) None) (cond (registers_can_resend s) (Some (resent s)) None) ≡ Some next → Did s next) [
      | true ↦ λ e. let h = some_is (registers_can_issue s) (issued s) next e in Issued h.0 h.1
      | false ↦ λ e. Resent (some_is (registers_can_resend s) (resent s) next e).1
    ]

can_issue_is : (s : ObserverState) → registers_can_issue s ≡ true → (s.issued < s.snapshot.count) × (suc s.issued ≤ register_floor s + s.snapshot.window)
can_issue_is s e =
    let most = register_floor s + s.snapshot.window in
    let parts = and_parts (nat_lt s.issued s.snapshot.count) (nat_le (suc s.issued) most) e in
    (ltb-true s.issued s.snapshot.count parts.0, leb-true (suc s.issued) most parts.1)

pub units_stay : (s : ObserverState) (action : ℕ) (o : Option (After ObserverState Msg)) → observer_act s action ≡ o → (acted s o).state.units ≡ s.units
units_stay s action None e = refl
units_stay s action (Some next) e = elim (did s action next e) [ Issued g f ↦ ap (λ a. a.state.units) f | Resent f ↦ ap (λ a. a.state.units) f ]

turn_keeps : (s : ObserverState) (t : Turn Msg) (u k : ℕ) (r : Saved) → saved_of (unit_at s.units u) k ≡ Some r → saved_of (unit_at (after_turn observer_rules s t).state.units u) k ≡ Some r
turn_keeps s (Took link (Wire b)) u k r e = e
turn_keeps s (Took link (Frame f)) u k r e = e
turn_keeps s (Took link (Poll _)) u k r e = e
turn_keeps s (Took link Notice) u k r e = e
turn_keeps s (Took link (Dump d)) u k r e = e
turn_keeps s (Took link (Begin n)) u k r e = e
turn_keeps s (Took link (Done d)) u k r e = units_keep s.snapshot.ring link d s.units u k r e
turn_keeps s (Acted action) u k r e = ap (λ us. saved_of (unit_at us u) k) (units_stay s action (observer_act s action) refl) ∙ e

pub rows_are_kept : (s : ObserverState) (ts : List (Turn Msg)) (u k : ℕ) (r : Saved) → saved_of (unit_at s.units u) k ≡ Some r → saved_of (unit_at (after observer_rules s ts).state.units u) k ≡ Some r
rows_are_kept s [] u k r e = e
rows_are_kept s (t ∷ ts) u k r e = rows_are_kept (after_turn observer_rules s t).state ts u k r (turn_keeps s t u k r e)

-- Numbers.

pub begins_are_of : (s : ObserverState) (action : ℕ) (next : After ObserverState Msg) → observer_act s action ≡ Some next → All (λ (p : ℕ × Msg). p.1 ≡ Begin next.state.issued) next.puts
begins_are_of s action next e =
    elim (did s action next e) [
      | Issued g f ↦ subst (λ (a : After ObserverState Msg). All (λ (p : ℕ × Msg). p.1 ≡ Begin a.state.issued) a.puts) (sym f) (each 0 s.outs (suc s.issued))
      | Resent f ↦ subst (λ (a : After ObserverState Msg). All (λ (p : ℕ × Msg). p.1 ≡ Begin a.state.issued) a.puts) (sym f) (each 0 s.outs s.issued)
    ]
  where
    each : (start n k : ℕ) → All (λ (p : ℕ × Msg). p.1 ≡ Begin k) (map (λ out. (out, Begin k)) (range_with_len start n))
    each start zero k = All-nil (λ (p : ℕ × Msg). p.1 ≡ Begin k)
    each start (suc n) k = All-cons (λ (p : ℕ × Msg). p.1 ≡ Begin k) (start, Begin k) (map (λ out. (out, Begin k)) (range_with_len (start + 1) n)) refl (each (start + 1) n k)

pub issues_within : (s : ObserverState) (action : ℕ) (next : After ObserverState Msg) → observer_act s action ≡ Some next → (next.state.issued ≤ s.issued) ⊎ (next.state.issued ≤ register_floor s + s.snapshot.window)
issues_within s action next e =
    elim (did s action next e) [
      | Issued g f ↦ let h = (can_issue_is s g).1 in let n : next.state.issued ≡ suc s.issued = ap (λ a. a.state.issued) f in inr (omega (arith, h, n))
      | Resent f ↦ let n : next.state.issued ≡ s.issued = ap (λ a. a.state.issued) f in inl (omega (arith, n))
    ]

-- after a turn the snapshots issued are no more than those asked for, which stay
record Counts (s t : ObserverState) : Type 0 where
  same : t.snapshot ≡ s.snapshot
  few : s.issued ≤ s.snapshot.count → t.issued ≤ s.snapshot.count

act_counts : (s : ObserverState) (action : ℕ) (o : Option (After ObserverState Msg)) → observer_act s action ≡ o → Counts s (acted s o).state
act_counts s action None e = record { same = refl; few = λ h. h }
act_counts s action (Some next) e =
    elim (did s action next e) [
      | Issued g f ↦ record { same = ap (λ a. a.state.snapshot) f; few = λ h. let l = (can_issue_is s g).0 in let n : next.state.issued ≡ suc s.issued = ap (λ a. a.state.issued) f in omega (arith, l, n) }
      | Resent f ↦ record { same = ap (λ a. a.state.snapshot) f; few = λ h. let n : next.state.issued ≡ s.issued = ap (λ a. a.state.issued) f in omega (arith, h, n) }
    ]

turn_counts : (s : ObserverState) (t : Turn Msg) → Counts s (after_turn observer_rules s t).state
turn_counts s (Took link (Wire b)) = record { same = refl; few = λ h. h }
turn_counts s (Took link (Frame f)) = record { same = refl; few = λ h. h }
turn_counts s (Took link (Poll _)) = record { same = refl; few = λ h. h }
turn_counts s (Took link Notice) = record { same = refl; few = λ h. h }
turn_counts s (Took link (Dump d)) = record { same = refl; few = λ h. h }
turn_counts s (Took link (Begin n)) = record { same = refl; few = λ h. h }
turn_counts s (Took link (Done d)) = record { same = refl; few = λ h. h }
turn_counts s (Acted action) = act_counts s action (observer_act s action) refl

pub issued_few : (s : ObserverState) (ts : List (Turn Msg)) → s.issued ≤ s.snapshot.count → (after observer_rules s ts).state.issued ≤ s.snapshot.count
issued_few s [] h = h
issued_few s (t ∷ ts) h =
    let one = turn_counts s t in
    let same : (after_turn observer_rules s t).state.snapshot.count ≡ s.snapshot.count = ap (λ n. n.count) one.same in
    let few = one.few h in
    let later : (after observer_rules (after_turn observer_rules s t).state ts).state.issued ≤ (after_turn observer_rules s t).state.snapshot.count = issued_few (after_turn observer_rules s t).state ts (omega (arith, few, same)) in
    omega (arith, later, same)
