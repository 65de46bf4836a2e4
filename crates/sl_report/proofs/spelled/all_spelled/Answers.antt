use Rattle.std.proofs.Common.{ℕ, List, ◌++◌, map, sym, ap, ◌∙◌}
use Rattle.sl_parts.specs.Parts.{below}
use Rattle.sl_parts.proofs.Lists.{flat_map_below_more}
use Rattle.sl_net.specs.Spelling.{choice_count}
use Rattle.sl_report.proofs.spelled.all_spelled.Goals as goal

pub loop-actor-preserved : goal.loop-actor-preserved
loop-actor-preserved c =
    let of : ℕ → List (ℕ × ℕ) = λ a. map (λ (k : ℕ). (a, k)) (below (choice_count c.args.net.now a)) in
    let n = c.loop-actor.actor in (
      c.in_ok-add_choices.ensures.each c.loop-actor.invariant.0,
      c.in_ok-add_choices.ensures.choices ∙ ap (λ xs. xs ++ of n) c.loop-actor.invariant.1 ∙ sym (flat_map_below_more of n),
    )
