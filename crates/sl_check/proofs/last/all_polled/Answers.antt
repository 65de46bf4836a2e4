use Rattle.std.proofs.Common.{◌≡◌, ℕ, ◌<◌, ◌≤◌, List, length, get_or, true, refl, sym, ap, subst, ◌∙◌, None}
use Rattle.std.specs.Prelude.{slice_index_or}
use Rattle.std.specs.List.{list_all}
use Rattle.std.proofs.lemmas.List.{drop_all}
use Rattle.sl_layout.specs.Net.{units}
use Rattle.sl_check.specs.Polled.{is_polled}
use Rattle.sl_check.proofs.Ended.{all-more}
use Rattle.sl_check.proofs.last.all_polled.Goals as goal

pub loop-unit-init : goal.loop-unit-init
loop-unit-init c = refl

pub loop-unit-preserved : goal.loop-unit-preserved
loop-unit-preserved c =
    let f = λ (u : ℕ). is_polled c.args.net.now u (slice_index_or c.args.last.now u None) in
    let us = units c.args.net.now in
    let k = c.loop-unit.unit-index in
    let same : c.unit_actors-unit-items.result.now ≡ us = c.unit_actors-unit-items.ensures.actors in
    all-more f us k 0 true (subst (λ (xs : List ℕ). k < length xs) same c.loop-unit-test.true)
    (ap (λ (xs : List ℕ). f (get_or xs k 0)) (sym same) ∙ sym c.is_polled.ensures ∙ c.if-not-is_polled.false) c.loop-unit.invariant

pub returns : goal.returns
returns c =
    let f = λ (u : ℕ). is_polled c.args.net.now u (slice_index_or c.args.last.now u None) in
    let us = units c.args.net.now in
    let k = c.loop-unit.unit-index in
    let past : length us ≤ k = subst (λ (xs : List ℕ). length xs ≤ k) c.unit_actors-unit-items.ensures.actors c.loop-unit-test.false in
    sym (c.loop-unit.invariant ∙ ap (list_all f) (drop_all k us past))
