use Rattle.sl_proto.specs.Standing.{world_of, run_at}
use Rattle.sl_proto.specs.Fronts.{SettlesBy}
use Rattle.sl_proto.specs.Calls.{AllDone}
use Rattle.sl_proto.proofs.Fronts.{leads-somewhere, settled-towards, settled-nothing, settled-out}
use Rattle.sl_proto.proofs.finishing.settle.Goals as goal

pub returns-in_err-pass-clause-front : goal.returns-in_err-pass-clause-front
returns-in_err-pass-clause-front g c x h = settled-nothing c.finishing_ends.ensures c.args.net.now x (g.T.Taker.scene c.args.taker.now) h

pub returns-clause-settles : goal.returns-clause-settles
returns-clause-settles g c = settled-out c.finishing_ends.ensures c.args.net.now (g.T.Taker.scene c.args.taker.now) (g.T.Taker.scene c.settle_by.new.taker) c.settle_by.result c.settle_by.ensures.leads c.settle_by.ensures.settled

pub returns-clause-front : goal.returns-clause-front
returns-clause-front g c x h = let v = g.T.Taker.scene c.args.taker.now in let u = g.T.Taker.scene c.settle_by.new.taker in
    settled-towards c.finishing_ends.ensures c.args.net.now x v u h
    (leads-somewhere x.setup x.lost (SettlesBy x.setup x.lost (world_of x v)) (AllDone c.settle_by.result) (run_at x v) (run_at x u) (c.settle_by.ensures.leads x h))
