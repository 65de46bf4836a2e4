use Rattle.sl_read.proofs.RowLemmas.{with_front_none, each_step, each_stops, each_end}
use Rattle.sl_read.proofs.places.place_each.Goals as goal

pub loop-index-init : goal.loop-index-init
loop-index-init g c = rw c.new-found.ensures.items (with_front_none _)

pub loop-index-preserved : goal.loop-index-preserved
loop-index-preserved g c = each_step (g.R.Placed.part_of c.args.named.now) c.args.rows.now c.loop-index.index _ _ _ _ _ c.loop-index-test.true c.index-rows-index.is c.in_ok-place.ensures c.in_ok-push.ensures.items c.loop-index.invariant

pub returns-in_err-place : goal.returns-in_err-place
returns-in_err-place g c = each_stops (g.R.Placed.part_of c.args.named.now) c.args.rows.now c.loop-index.index _ c.loop-index.found.items c.in_err-place.field-0.0 _ c.from_residual.result c.from_residual.ensures c.loop-index-test.true c.index-rows-index.is c.in_err-place.ensures c.loop-index.invariant

pub returns : goal.returns
returns g c = each_end (g.R.Placed.part_of c.args.named.now) c.args.rows.now c.loop-index.index c.loop-index.found.items _ c.loop-index-test.false c.loop-index.invariant
