use Rattle.std.proofs.Common.{◌<◌, ap, ◌∙◌, length, arith}
use Rattle.sl_layout.specs.Net.{units}
use Rattle.sl_observe.specs.Kept.{states}
use Rattle.sl_observe.proofs.UnitLists.{listed_more}
use Rattle.sl_observe.proofs.units.list_units.Goals as goal

pub loop-place-preserved : goal.loop-place-preserved
loop-place-preserved c =
    let within : c.loop-place.place < length (units c.args.net.now) = omega (arith, c.units-ids.ensures.len) in
    ap states c.in_ok-push.ensures.items
    ∙ listed_more c.args.net.now c.units-ids.result.now c.loop-place.place _ (length c.upstream-channels.result.now) c.loop-place.listed.items c.new.result c.units-ids.ensures.units (omega arith) within
    (ap length c.upstream-channels.ensures) c.new.ensures c.loop-place.invariant
