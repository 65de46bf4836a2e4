use Rattle.std.proofs.Common.{◌≡◌, ap, sym, ◌∙◌, inl, inr, arith, eq-eqb}
use Rattle.std.proofs.lemmas.Bool.{cases_lt}
use Rattle.std.proofs.lemmas.List.{get_or_read}
use Rattle.sl_observe.specs.Observer.{new_unit, unit_at}
use Rattle.sl_observe.specs.Kept.{Collected, states}
use Rattle.sl_observe.proofs.UnitLists.{state_at}
use Rattle.sl_observe.proofs.spans.Span.of.Goals as goal

pub loop-place-preserved : goal.loop-place-preserved
loop-place-preserved c =
    let us = c.args.units.now in
    let place = c.loop-place.place in
    let unit = c.index-units-place in
    let span = c.widened-span in
    let read = get_or_read us place unit.result c.loop-place-test.true unit.is (record { state = new_unit 0 0; room = 0 }) in
    record {
      before = span.ensures.before;
      ordered = span.ensures.ordered;
      covers = λ k h belongs.
          elim (cases_lt k place) [
            | inl g ↦ let old = c.loop-place.invariant.covers k g belongs in span.ensures.keeps k old.0 old.1
            | inr g ↦
                let same : place ≡ k = omega arith in
                let device : c.device.result ≡ c.args.device =
                c.device.ensures ∙ ap (λ (u : Collected). u.state.device) read ∙ sym (ap (λ v. v.device) (state_at us place c.loop-place-test.true)) ∙ ap (λ n. (unit_at (states us) n).device) same ∙ belongs
                in
                let added = span.ensures.adds (eq-eqb c.device.result c.args.device device) in
                (omega (arith, added.0), omega (arith, added.1))
          ];
    }
