use Rattle.std.proofs.Common.{◌∙◌, ◌≡◌, ◌-◌, ◌+◌, ◌<◌, ℕ, arith, refl, length, ap, sym}
use Rattle.std.proofs.lemmas.List.{length-set}
use Rattle.sl_world.specs.Looked.{step_at}
use Rattle.sl_world.specs.declared.looked.Step.{Step}
use Rattle.sl_world.proofs.LookupLemmas.{runs_joined, entries_joined}
use Rattle.sl_world.proofs.looked.count_runs.Goals as goal

pub loop-at-preserved-then-is_followed : goal.loop-at-preserved-then-is_followed
loop-at-preserved-then-is_followed c =
    let steps = c.loop-at.steps in
    let k : ℕ = c.loop-at.at - 1 - 1 in
    let next : c.loop-at.at - 1 ≡ k + 1 = omega (arith, c.loop-at-test.true) in
    let low : k + 1 < length steps = omega (arith, c.loop-at-test.true, c.loop-at.invariant.within) in
    let follows : (step_at steps (k + 1)).link ≡ (step_at steps k).link + 1 = ap (λ (i : ℕ). (step_at steps i).link) (sym next) ∙ c.is_followed.ensures c.if-is_followed.true in
    let new : Step = record { actor = (step_at steps k).actor; choice = (step_at steps k).choice; link = (step_at steps k).link; run = c.saturating_add.result } in
    record {
      entries = entries_joined steps k new low refl c.loop-at.invariant.runs follows (omega (arith, c.saturating_add.ensures)) (omega (arith, c.saturating_add.ensures, ap (λ (i : ℕ). (step_at steps i).run) next)) refl ∙ c.loop-at.invariant.entries;
      runs = runs_joined steps k new low refl c.loop-at.invariant.runs follows (omega (arith, c.saturating_add.ensures)) (omega (arith, c.saturating_add.ensures, ap (λ (i : ℕ). (step_at steps i).run) next));
      within = omega (arith, c.loop-at.invariant.within, length-set steps k new);
    }
