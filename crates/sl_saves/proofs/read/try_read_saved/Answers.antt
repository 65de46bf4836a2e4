use Rattle.std.proofs.Common.{◌-◌, subst, sym, refl, ap, ◌∙◌, arith}
use Rattle.sl_saves.specs.Views.{place_below}
use Rattle.sl_saves.proofs.Walking.{IsWalking, walking-start, walking-passed, passed-live, walking-step}
use Rattle.sl_saves.proofs.read.try_read_saved.Goals as goal

pub loop-slot-init : goal.loop-slot-init
loop-slot-init c = walking-start c.args.view.now c.args.id c.args.k c.requires.most c.requires.at

pub returns-then-from-age-clause-live : goal.returns-then-from-age-clause-live
returns-then-from-age-clause-live c = (
  λ _. passed-live c.args.view.now c.args.id c.args.k c.loop-slot.number c.loop-slot.place c.loop-slot.bad c.get-slot.result.now c.loop-slot.invariant c.get-slot.ensures
      (let above = c.loop-slot.invariant.above in omega arith) (omega arith) c.requires.least (omega arith),
  λ _. refl,
)

pub returns-then-from-age-clause-value : goal.returns-then-from-age-clause-value
returns-then-from-age-clause-value c =
    walking-passed c.args.view.now c.args.id c.args.k c.loop-slot.number c.loop-slot.place c.loop-slot.bad c.get-slot.result.now c.loop-slot.invariant c.get-slot.ensures
    (let above = c.loop-slot.invariant.above in omega arith) (omega arith) c.requires.least

pub loop-slot-preserved : goal.loop-slot-preserved
loop-slot-preserved c =
    subst (λ back. IsWalking c.args.view.now c.args.id c.args.k (c.loop-slot.number - back) c.place_below-place.result c.last_bad-bad.result) (sym c.from-number.ensures)
    (walking-step c.args.view.now c.args.id c.args.k c.loop-slot.number c.loop-slot.place c.loop-slot.bad c.get-slot.result.now c.loop-slot.invariant c.get-slot.ensures
    c.place_below-place.result c.last_bad-bad.result c.requires.at c.requires.near (let above = c.loop-slot.invariant.above in omega arith) (omega arith) (omega arith)
    (c.place_below-place.ensures.value ∙ ap (λ n. place_below n c.loop-slot.place c.get-slot.result.now.back) c.len-size.ensures) c.last_bad-bad.ensures)
