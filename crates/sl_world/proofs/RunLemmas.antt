-- What turns keep, and a schedule with one more entry.
use Rattle.std.proofs.Common.{◌≡◌, ℕ, ◌+◌, ◌-◌, ◌<◌, ◌≤◌, List, [], ◌∷◌, ◌++◌, length, take, get_or, refl, ap, sym, ◌∙◌, arith, zero, suc, subst, true, true≢false, slice_get, Option, Some, None, Result, Ok, Err, inl, inr}
use Rattle.std.specs.Prelude.{unwrap_or, nat_lt, OnOk, OnErr, IsErr}
use Rattle.std.proofs.lemmas.Bool.Decides.{nat_tests}
use Rattle.std.proofs.lemmas.Option.{get_or_from_slice_get}
use Rattle.std.proofs.lemmas.List.{length_push, take_more, take_all}
use Rattle.sl_machine.specs.Machine.{Rules}
use Rattle.sl_machine.specs.Plan.{link_in}
use Rattle.sl_world.specs.Scene.{Scene, Line, empty_line, line_at, take_first, take_turn, turn_of, after_turn, after_all, entry_after, FindsNothing}
use Rattle.sl_world.specs.Turns.{IsTurn, AreTurns}
use Rattle.sl_world.specs.declared.world.Turn.{Turn}
use Rattle.sl_world.specs.declared.world.Turn.TheVariants.{Did, Idle}
use Rattle.sl_world.proofs.TurnLaws.{turn_is}
use Rattle.sl_world.proofs.BookLaws.{book_after}

-- a turn keeps the plan, and adds at most one entry
pub record Keeps {S M : Type 0} (w v : Scene S M) : Type 0 where
  pub plan : v.plan ≡ w.plan
  pub book : length v.book ≤ length w.book + 1

did_keeps : {S M : Type 0} (rules : Rules S M) (w v : Scene S M) (actor choice : ℕ) → turn_of rules w actor choice ≡ Some v → Keeps w v
did_keeps {S} {M} rules w v actor choice did =
    record {
      plan = elim (turn_is rules w actor choice v did) [ inl t ↦ ap (λ (u : Scene S M). u.plan) t.1 | inr t ↦ ap (λ (u : Scene S M). u.plan) t.1 ];
      book = omega (arith, ap length (book_after rules w v actor choice did), length_push w.book (entry_after w.book actor choice));
    }

after_keeps : {S M : Type 0} (rules : Rules S M) (w : Scene S M) (e : ℕ × ℕ) (t : Option (Scene S M)) → turn_of rules w e.0 e.1 ≡ t → Keeps w (unwrap_or t w)
after_keeps rules w e None did = record { plan = refl; book = omega arith }
after_keeps rules w e (Some v) did = did_keeps rules w v e.0 e.1 did

pub turn_keeps : {S M : Type 0} (rules : Rules S M) (w : Scene S M) (e : ℕ × ℕ) → Keeps w (after_turn rules w e)
turn_keeps rules w e = after_keeps rules w e (turn_of rules w e.0 e.1) refl

-- and so does a turn that may have been refused
pub either_keeps : {S M T E : Type 0} (rules : Rules S M) (w v : Scene S M) (e : ℕ × ℕ) (r : Result T E) → OnOk r (v ≡ after_turn rules w e) → OnErr r (v ≡ w) → Keeps w v
either_keeps rules w v e (Ok t) after same = subst (Keeps w) (sym after) (turn_keeps rules w e)
either_keeps rules w v e (Err x) after same = rw same (record { plan = refl; book = omega arith })

-- one more entry
pub after_all-push : {S M : Type 0} (rules : Rules S M) (w : Scene S M) (es : List (ℕ × ℕ)) (e : ℕ × ℕ) → after_all rules w (es ++ e ∷ []) ≡ after_turn rules (after_all rules w es) e
after_all-push rules w [] e = refl
after_all-push rules w (f ∷ es) e = after_all-push rules (after_turn rules w f) es e

pub run_more : {S M : Type 0} (rules : Rules S M) (w v u : Scene S M) (es : List (ℕ × ℕ)) (i : ℕ) (d e : ℕ × ℕ) → i < length es → e ≡ get_or es i d → v ≡ after_all rules w (take i es) → u ≡ after_turn rules v e → u ≡ after_all rules w (take (i + 1) es)
run_more rules w v u es i d e low is so_far step =
    step ∙ (ap (λ x. after_turn rules x e) so_far ∙ (ap (after_turn rules (after_all rules w (take i es))) is ∙ (sym (after_all-push rules w (take i es) (get_or es i d)) ∙ ap (after_all rules w) (sym (take_more es i d low)))))

-- these first entries of a schedule were run
pub record IsSoFar {S M : Type 0} (rules : Rules S M) (old now : Scene S M) (es : List (ℕ × ℕ)) (at : ℕ) : Type 0 where
  pub so_far : now ≡ after_all rules old (take at es)
  pub plan : now.plan ≡ old.plan
  pub book : length now.book ≤ length old.book + at

pub so_far_more : {S M : Type 0} (rules : Rules S M) (old w v : Scene S M) (es : List (ℕ × ℕ)) (at : ℕ) → at < length es → IsSoFar rules old w es at → v ≡ after_turn rules w (get_or es at (0, 0)) → IsSoFar rules old v es (at + 1)
so_far_more rules old w v es at low before after =
    let e = get_or es at (0, 0) in
    let keeps = subst (Keeps w) (sym after) (turn_keeps rules w e) in
    record {
      so_far = run_more rules old w v es at (0, 0) e low refl before.so_far after;
      plan = keeps.plan ∙ before.plan;
      book = omega (arith, keeps.book, before.book);
    }

on_ok : {T E P : Type 0} (r : Result T E) → P → OnOk r P
on_ok (Ok t) p = p
on_ok (Err x) p = tt

not_ok : {T E : Type 0} (P : Type 0) (r : Result T E) → IsErr r → OnOk r P
not_ok P (Ok t) err = absurd (true≢false (sym err))
not_ok P (Err x) err = tt

pub on_err : {T E P : Type 0} (r : Result T E) → P → OnErr r P
on_err (Ok t) p = tt
on_err (Err x) p = p

-- they are the turns of the schedule where all were run, or one was refused
module _ {S M T E : Type 0} (rules : Rules S M) (old now new : Scene S M) (es : List (ℕ × ℕ)) (at : ℕ) (answer : Result T E) (before : IsSoFar rules old now es at) (same : new ≡ now) where
  turns_to : at ≤ length es → OnOk answer (new ≡ after_all rules old es) → AreTurns rules es answer old new
  turns_to within ok =
      record {
        ok = ok;
        front = record { entries = at; within = within; is = same ∙ before.so_far };
        plan = ap (λ (w : Scene S M). w.plan) same ∙ before.plan;
        book = omega (arith, ap (λ (w : Scene S M). length w.book) same, before.book, within);
      }

  pub all_run : at ≡ length es → AreTurns rules es answer old new
  all_run end = turns_to (omega (arith, end)) (on_ok answer (same ∙ (before.so_far ∙ ap (after_all rules old) (take_all at es (omega (arith, end))))))

  pub one_refused : at ≤ length es → IsErr answer → AreTurns rules es answer old new
  one_refused within err = turns_to within (not_ok (new ≡ after_all rules old es) answer err)

-- a turn that was refused, one that was idle, and one that did something
pub refused : {S M E : Type 0} (rules : Rules S M) (actor choice : ℕ) (answer : Result Turn E) (old new : Scene S M) → IsErr answer → new ≡ old → IsTurn rules actor choice answer old new
refused rules actor choice (Ok t) old new err same = absurd (true≢false (sym err))
refused rules actor choice (Err x) old new err same = record { after = tt; did = λ is. absurd (cc); idle = λ is. absurd (cc); same = λ _. same; err = same }

pub was_idle : {S M E : Type 0} (rules : Rules S M) (actor choice : ℕ) (old new : Scene S M) → turn_of rules old actor choice ≡ None → new ≡ old → IsTurn {E = E} rules actor choice (Ok Idle) old new
was_idle rules actor choice old new none same = record { after = same ∙ ap (λ o. unwrap_or o old) (sym none); did = λ is. absurd (cc); idle = λ _. none; same = λ _. same; err = tt }

pub was_done : {S M E : Type 0} (rules : Rules S M) (actor choice : ℕ) (old new : Scene S M) → turn_of rules old actor choice ≡ Some new → IsTurn {E = E} rules actor choice (Ok Did) old new
was_done rules actor choice old new did = record { after = ap (λ o. unwrap_or o old) (sym did); did = λ _. did; idle = λ is. absurd (cc); same = λ is. absurd (cc); err = tt }

module _ {S M : Type 0} (rules : Rules S M) (w : Scene S M) where
  first_none : (actor choice link : ℕ) (s : S) (line : Line M) → line.queue ≡ [] → take_first rules w actor choice link s line line.queue ≡ None
  first_none actor choice link s line empty = rw empty refl

  take_none : (actor choice : ℕ) (s : Option S) (line : Option (Line M)) → slice_get w.lines (link_in w.plan.links actor choice) ≡ line → (line_at w.lines (link_in w.plan.links actor choice)).queue ≡ [] → take_turn rules w actor choice (link_in w.plan.links actor choice) s line ≡ None
  take_none actor choice None line here empty = refl
  take_none actor choice (Some s) None here empty = refl
  take_none actor choice (Some s) (Some line) here empty = first_none actor choice _ s line (ap (λ (l : Line M). l.queue) (sym (get_or_from_slice_get w.lines (link_in w.plan.links actor choice) line empty_line here)) ∙ empty)

  -- a choice that finds nothing is idle
  pub finds_none : (actor choice : ℕ) → FindsNothing w actor choice → turn_of rules w actor choice ≡ None
  finds_none actor choice nothing =
      let test : nat_lt (link_in w.plan.links actor choice) (length w.plan.links) ≡ true = grind (arith, nat_tests, nothing.linked) in
      rw test (take_none actor choice (slice_get w.states actor) _ refl nothing.empty)

  -- choices that find nothing, one after the other, change nothing
  pub quiet_steps : (old : Scene S M) (es : List (ℕ × ℕ)) (n i : ℕ) → i + n ≤ length es → w ≡ after_all rules old (take i es) → ((k : ℕ) → i ≤ k → k < i + n → let e = get_or es k (0, 0) in FindsNothing w e.0 e.1) → w ≡ after_all rules old (take (i + n) es)
  quiet_steps old es zero i within so_far nothing = subst (λ (j : ℕ). w ≡ after_all rules old (take j es)) (omega arith) so_far
  quiet_steps old es (suc n) i within so_far nothing =
      let e = get_or es i (0, 0) in
      let idle : turn_of rules w e.0 e.1 ≡ None = finds_none e.0 e.1 (nothing i (omega arith) (omega arith)) in
      let step : w ≡ after_all rules old (take (i + 1) es) = run_more rules old w w es i (0, 0) e (omega arith) refl so_far (rw idle refl) in
      subst (λ (j : ℕ). w ≡ after_all rules old (take j es)) (omega arith)
      (quiet_steps old es n (i + 1) (omega arith) step (λ k from below. nothing k (omega arith) (omega arith)))

  -- the same up to a place
  pub quiet_until : (old : Scene S M) (es : List (ℕ × ℕ)) (i j : ℕ) → i ≤ j → j ≤ length es → IsSoFar rules old w es i → ((k : ℕ) → i ≤ k → k < j → let e = get_or es k (0, 0) in FindsNothing w e.0 e.1) → IsSoFar rules old w es j
  quiet_until old es i j from within before nothing =
      let same : i + (j - i) ≡ j = omega arith in
      record {
        so_far = subst (λ (k : ℕ). w ≡ after_all rules old (take k es)) same (quiet_steps old es (j - i) i (omega arith) before.so_far (λ k low below. nothing k low (omega arith)));
        plan = before.plan;
        book = omega (arith, before.book);
      }
