use Rattle.std.proofs.Common.{sym, ap, length, arith}
use Rattle.sl_world.proofs.PlaceLemmas.{start_of-zero, started_more}
use Rattle.sl_world.proofs.places.Places.blank.Goals as goal

pub loop-count-init : goal.loop-count-init
loop-count-init c = record { long = ap length c.new-starts.ensures.items; end = sym (start_of-zero c.args.counts.now); starts = λ a h. absurd (omega arith) }

pub loop-count-preserved : goal.loop-count-preserved
loop-count-preserved c =
    started_more c.loop-count.starts.items _ c.args.counts.now c.loop-count.count-index c.loop-count.end c.in-Some.next c.in_ok-push.ensures.items c.loop-count.invariant.long c.loop-count-test.true c.loop-count.invariant.end (c.in-Some.ensures).1 c.loop-count.invariant.starts
