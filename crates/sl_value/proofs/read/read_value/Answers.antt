use Rattle.std.proofs.Common.{◌-◌, ◌≤◌, ◌<◌, ℕ, subst, sym, ap, ◌∙◌}
use Rattle.sl_saves.specs.Views.{place_below}
use Rattle.sl_value.proofs.Counting.{IsReading, reading-last, reading-step}
use Rattle.sl_value.proofs.read.read_value.Goals as goal

pub returns-then-from-number : goal.returns-then-from-number
returns-then-from-number c =
    reading-last c.args.view.now c.args.id c.args.k c.loop-number.number c.loop-number.place c.get-slot.result.now c.loop-number.invariant c.get-slot.ensures
    c.requires.least (subst (λ (n : ℕ). c.loop-number.number - c.args.k < n) c.from.ensures c.if-from-number.true)

pub loop-number-preserved : goal.loop-number-preserved
loop-number-preserved c =
    subst (λ back. IsReading c.args.view.now c.args.id c.args.k (c.loop-number.number - back) c.place_below-place.result) (sym c.from-number.ensures)
    (reading-step c.args.view.now c.args.id c.args.k c.loop-number.number c.loop-number.place c.get-slot.result.now c.loop-number.invariant c.get-slot.ensures
    c.place_below-place.result c.requires.at c.requires.near (subst (λ (n : ℕ). n ≤ c.loop-number.number - c.args.k) c.from.ensures c.if-from-number.false)
    (c.place_below-place.ensures.value ∙ ap (λ n. place_below n c.loop-number.place c.get-slot.result.now.back) c.len-size.ensures)
    (subst (λ (n : ℕ). c.place_below-place.result < n) c.len-size.ensures c.place_below-place.ensures.inside))
