use Rattle.sl_read.specs.Places.{cable_part}
use Rattle.sl_read.proofs.RowLemmas.{with_front_none, each_step, each_stops, each_end}
use Rattle.sl_read.proofs.places.cable_parts.Goals as goal

pub loop-index-init : goal.loop-index-init
loop-index-init c = rw c.new-found.ensures.items (with_front_none _)

pub loop-index-preserved : goal.loop-index-preserved
loop-index-preserved c = each_step (cable_part c.args.devices.now c.args.version) c.args.cables.now c.loop-index.index _ _ _ _ _ c.loop-index-test.true c.index-cables-index.is c.in_ok-cable_part.ensures c.in_ok-push.ensures.items c.loop-index.invariant

pub returns-in_err-cable_part : goal.returns-in_err-cable_part
returns-in_err-cable_part c = each_stops (cable_part c.args.devices.now c.args.version) c.args.cables.now c.loop-index.index _ c.loop-index.found.items c.in_err-cable_part.field-0.0 _ c.from_residual.result c.from_residual.ensures c.loop-index-test.true c.index-cables-index.is c.in_err-cable_part.ensures c.loop-index.invariant

pub returns : goal.returns
returns c = each_end (cable_part c.args.devices.now c.args.version) c.args.cables.now c.loop-index.index c.loop-index.found.items _ c.loop-index-test.false c.loop-index.invariant
