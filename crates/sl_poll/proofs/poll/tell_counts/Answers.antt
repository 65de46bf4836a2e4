use Rattle.std.proofs.Common.{List, [], subst, arith}
use Rattle.std.proofs.lemmas.List.{take_all}
use Rattle.sl_poll.specs.declared.trail.Counted.{Counted}
use Rattle.sl_poll.specs.Hearing.{Hears}
use Rattle.sl_poll.proofs.Heard.{hears_nothing, counts_more}
use Rattle.sl_poll.proofs.poll.tell_counts.Goals as goal

pub loop-one-init : goal.loop-one-init
loop-one-init g c = hears_nothing g.L.Listener.heard c.args.net.now c.args.listener.now

pub loop-one-preserved : goal.loop-one-preserved
loop-one-preserved g c = let d : Counted = record { unit = 0; entry = 0; bytes = 0 } in
    counts_more g.L.Listener.heard c.args.net.now c.args.listener.now c.loop-one.listener _ c.args.counted.now c.loop-one.one-index d (omega arith) c.loop-one.invariant (c.in_ok-hear_count.ensures c.args.net.now)

pub returns : goal.returns
returns g c = subst (λ (cs : List Counted). Hears g.L.Listener.heard c.args.net.now c.args.listener.now c.loop-one.listener [] cs) (take_all c.loop-one.one-index c.args.counted.now (omega arith)) c.loop-one.invariant
