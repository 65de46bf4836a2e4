use Rattle.std.proofs.Common.{List, [], subst, arith}
use Rattle.std.proofs.lemmas.List.{take_all}
use Rattle.sl_poll.specs.declared.trail.Pair.{Pair}
use Rattle.sl_poll.specs.Hearing.{Hears}
use Rattle.sl_poll.proofs.Heard.{hears_nothing, pairs_more}
use Rattle.sl_poll.proofs.poll.tell_pairs.Goals as goal

pub loop-pair-init : goal.loop-pair-init
loop-pair-init g c = hears_nothing g.L.Listener.heard c.args.net.now c.args.listener.now

pub loop-pair-preserved : goal.loop-pair-preserved
loop-pair-preserved g c = let d : Pair = record { link = 0; put = 0; take = 0 } in
    pairs_more g.L.Listener.heard c.args.net.now c.args.listener.now c.loop-pair.listener _ c.args.pairs.now c.loop-pair.pair-index d (omega arith) c.loop-pair.invariant c.in_ok-hear_pair.ensures

pub returns : goal.returns
returns g c = subst (λ (ps : List Pair). Hears g.L.Listener.heard c.args.net.now c.args.listener.now c.loop-pair.listener ps []) (take_all c.loop-pair.pair-index c.args.pairs.now (omega arith)) c.loop-pair.invariant
