use Rattle.std.proofs.Common.{◌∙◌, true≢false, sym, ap, inl, inr, arith, refl, length, List, ℕ}
use Rattle.sl_actor.proofs.RunLemmas.{advances_on, quiet_on, undone, grown}
use Rattle.sl_actor.proofs.actor.Actor.turns.Goals as goal
use Rattle.sl_actor.proofs.actor.Actor.turns.Goals.{in-Did+else-done-steps, in-Offered, in-Idle}

pub returns-in_err-advance-clause-advances : goal.returns-in_err-advance-clause-advances
returns-in_err-advance-clause-advances g c = advances_on _ _ _ _ _ c.loop-choice.invariant.0 c.advance.ensures.advances

pub returns-then-done-steps-clause-advances : goal.returns-then-done-steps-clause-advances
returns-then-done-steps-clause-advances g c = advances_on _ _ _ _ _ c.loop-choice.invariant.0 c.advance.ensures.advances

pub loop-choice-preserved : goal.loop-choice-preserved
loop-choice-preserved g c =
    let h = c.loop-choice.invariant in (
      advances_on _ _ _ _ _ h.0 c.advance.ensures.advances,
      elim c.match-branch-2.branch [
        | in-Did+else-done-steps w ↦ let more = grown _ _ _ w.in-Did.is c.in_ok-advance.ensures.answer in omega (arith, h.1, more, w.done-is)
        | in-Offered w ↦ let same = undone _ _ _ (inr w.in-Offered.is) c.in_ok-advance.ensures.answer in omega (arith, h.1, ap (λ (l : List (ℕ × ℕ)). length l) same.log, w.done-is)
        | in-Idle w ↦ let same = undone _ _ _ (inl w.in-Idle.is) c.in_ok-advance.ensures.answer in omega (arith, h.1, ap (λ (l : List (ℕ × ℕ)). length l) same.log, w.done-is)
      ],
      elim c.match-branch-2.branch [
        | in-Did+else-done-steps w ↦ omega (arith, w.done-is, w.if-done-steps.false)
        | in-Offered w ↦ omega (arith, h.2, w.done-is)
        | in-Idle w ↦ omega (arith, h.2, w.done-is)
      ],
      elim c.match-branch-2.branch [
        | in-Did+else-done-steps w ↦ λ calm. absurd (true≢false (sym calm ∙ w.calm-is))
        | in-Offered w ↦ λ calm. absurd (true≢false (sym calm ∙ w.calm-is))
        | in-Idle w ↦ λ calm. quiet_on _ _ _ _ _ _ _ refl (undone _ _ _ (inl w.in-Idle.is) c.in_ok-advance.ensures.answer) c.in_ok-advance.ensures.fronts (h.3 (sym w.calm-is ∙ calm))
      ],
      elim c.match-branch-2.branch [
        | in-Did+else-done-steps w ↦ let more = grown _ _ _ w.in-Did.is c.in_ok-advance.ensures.answer in omega (arith, h.4, more)
        | in-Offered w ↦ let same = undone _ _ _ (inr w.in-Offered.is) c.in_ok-advance.ensures.answer in omega (arith, h.4, ap (λ (l : List (ℕ × ℕ)). length l) same.log)
        | in-Idle w ↦ let same = undone _ _ _ (inl w.in-Idle.is) c.in_ok-advance.ensures.answer in omega (arith, h.4, ap (λ (l : List (ℕ × ℕ)). length l) same.log)
      ],
      elim c.match-branch-2.branch [
        | in-Did+else-done-steps w ↦ λ calm. absurd (true≢false (sym calm ∙ w.calm-is))
        | in-Offered w ↦ λ calm. absurd (true≢false (sym calm ∙ w.calm-is))
        | in-Idle w ↦ λ calm. (undone _ _ _ (inl w.in-Idle.is) c.in_ok-advance.ensures.answer).log ∙ h.5 (sym w.calm-is ∙ calm)
      ],
    )
