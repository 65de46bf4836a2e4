use Rattle.std.proofs.Common.{sym}
use Rattle.sl_form.specs.declared.refusal.ReadError.TheVariants.{Refused}
use Rattle.sl_read.specs.Choices.{drop_part}
use Rattle.sl_read.proofs.RowLemmas.{with_front_none, each_step, each_stops, each_end}
use Rattle.sl_read.proofs.choices.place_drops.Goals as goal

pub loop-index-init : goal.loop-index-init
loop-index-init c = rw c.new-found.ensures.items (with_front_none _)

pub loop-index-preserved : goal.loop-index-preserved
loop-index-preserved c = each_step (drop_part c.args.net.now) c.args.drops.now c.loop-index.index _ _ _ _ _ c.loop-index-test.true c.index-drops-index.is (sym c.in_ok-drop_part.ensures) c.in_ok-push.ensures.items c.loop-index.invariant

pub returns-in_err-drop_part : goal.returns-in_err-drop_part
returns-in_err-drop_part c = each_stops (drop_part c.args.net.now) c.args.drops.now c.loop-index.index _ c.loop-index.found.items (Refused c.in_err-drop_part.field-0.0) _ c.from_residual.result c.from_residual.ensures c.loop-index-test.true c.index-drops-index.is (sym c.in_err-drop_part.ensures) c.loop-index.invariant

pub returns : goal.returns
returns c = each_end (drop_part c.args.net.now) c.args.drops.now c.loop-index.index c.loop-index.found.items _ c.loop-index-test.false c.loop-index.invariant
