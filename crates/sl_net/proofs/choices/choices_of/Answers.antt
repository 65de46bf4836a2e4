use Rattle.std.proofs.Common.{◌≡◌, ◌<◌, ◌≤◌, ℕ, List, ap, subst, sym, ◌∙◌, arith, length, refl}
use Rattle.std.specs.Prelude.{slice_index_or}
use Rattle.std.specs.List.{All}
use Rattle.std.proofs.lemmas.Grind.{common_steps}
use Rattle.sl_layout.specs.Net.{link_of, same_sort}
use Rattle.sl_layout.proofs.Grouping.{few_filter, filter_noted, low_filter}
use Rattle.sl_net.proofs.choices.choices_of.Goals as goal

pub loop-choice-preserved : goal.loop-choice-preserved
loop-choice-preserved c =
    let test = λ (k : ℕ). same_sort (link_of c.args.net.now (slice_index_or c.links_into-links.result.now k 0)).sort c.args.sort in
    rw (filter_noted test c.loop-choice.choice (test c.loop-choice.choice) refl) (grind (arith, common_steps))

pub returns-clause-few : goal.returns-clause-few
returns-clause-few c =
    let test = λ (k : ℕ). same_sort (link_of c.args.net.now (slice_index_or c.links_into-links.result.now k 0)).sort c.args.sort in
    subst (λ (xs : List ℕ). length xs ≤ 77888) (sym c.loop-choice.invariant)
    (omega (arith, few_filter test c.loop-choice.choice, c.loop-choice.auto.choice-end, c.links_into-links.ensures.few))

pub returns-clause-each : goal.returns-clause-each
returns-clause-each c =
    let test = λ (k : ℕ). same_sort (link_of c.args.net.now (slice_index_or c.links_into-links.result.now k 0)).sort c.args.sort in
    let whole : c.loop-choice.choice ≡ length c.links_into-links.result.now = omega (arith, c.loop-choice.auto.choice-end, c.loop-choice-test.false) in
    subst (λ (n : ℕ). All (λ (k : ℕ). k < n) c.loop-choice.choices.items) (whole ∙ ap length c.links_into-links.ensures.links)
    (subst (λ (xs : List ℕ). All (λ (k : ℕ). k < c.loop-choice.choice) xs) (sym c.loop-choice.invariant) (low_filter test c.loop-choice.choice))
