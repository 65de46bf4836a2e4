use Rattle.std.proofs.Common.{ℕ, [], ◌∷◌, ◌++◌, map, sym, ap, subst, ◌∙◌, arith, append_assoc}
use Rattle.std.specs.List.{All}
use Rattle.std.proofs.lemmas.List.{map-append}
use Rattle.std.proofs.lemmas.List.Elements.{All-nil, All-cons, All-append}
use Rattle.sl_parts.specs.Parts.{below}
use Rattle.sl_parts.proofs.Lists.{below_more}
use Rattle.sl_report.specs.Spelled.{IsSpelled, choices_in}
use Rattle.sl_report.proofs.spelled.add_choices.Goals as goal

pub loop-choice-preserved : goal.loop-choice-preserved
loop-choice-preserved c =
    let one : ℕ → ℕ × ℕ = λ k. (c.args.actor, k) in
    let before = choices_in c.args.spelled.now.items in
    let n = c.loop-choice.choice in (
      (λ all. subst (All (IsSpelled c.args.net.now)) (sym c.in_ok-push.ensures.items)
          (All-append (IsSpelled c.args.net.now) _ _ (c.loop-choice.invariant.0 all) (All-cons (IsSpelled c.args.net.now) _ [] (record { choice = record { actor = c.requires; choice = let h = c.loop-choice-test.true in let e = c.choice_count-choice-end.ensures.count in omega (arith, h, e) }; text = c.in_ok-text.ensures }) (All-nil (IsSpelled c.args.net.now))))),
      ap choices_in c.in_ok-push.ensures.items ∙ map-append _ c.loop-choice.spelled.items _ ∙ ap (λ xs. xs ++ (one n ∷ [])) c.loop-choice.invariant.1
          ∙ append_assoc before (map one (below n)) (one n ∷ []) ∙ ap (λ xs. before ++ xs) (sym (ap (map one) (below_more n) ∙ map-append one (below n) (n ∷ []))),
    )
