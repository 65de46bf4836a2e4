use Rattle.sl_model.specs.End.{IsFin}
use Rattle.sl_proto.specs.Standing.{world_of, run_at}
use Rattle.sl_proto.specs.Calls.{AllDone}
use Rattle.sl_proto.proofs.Fronts.{leads-somewhere, finished-towards, finished-nothing, finished-out}
use Rattle.sl_proto.proofs.finishing.finish.Goals as goal

pub returns-in_err-pass-clause-front : goal.returns-in_err-pass-clause-front
returns-in_err-pass-clause-front g c x pos h = finished-nothing c.finishing_ends.ensures c.args.net.now x (g.T.Taker.scene c.args.taker.now) h

pub returns-in_err-sweeps-clause-front : goal.returns-in_err-sweeps-clause-front
returns-in_err-sweeps-clause-front g c x pos h = finished-nothing c.finishing_ends.ensures c.args.net.now x (g.T.Taker.scene c.args.taker.now) h

pub returns-clause-finishes : goal.returns-clause-finishes
returns-clause-finishes g c = finished-out c.finishing_ends.ensures c.finishing_finishes.ensures c.args.net.now (g.T.Taker.scene c.args.taker.now) (g.T.Taker.scene c.finish_by.new.taker) c.finish_by.result c.finish_by.ensures.leads

pub returns-clause-front : goal.returns-clause-front
returns-clause-front g c x pos h = let v = g.T.Taker.scene c.args.taker.now in let u = g.T.Taker.scene c.finish_by.new.taker in
    finished-towards c.finishing_ends.ensures c.args.net.now x v u h
    (leads-somewhere x.setup x.lost (IsFin x.setup x.lost (world_of x v)) (AllDone c.finish_by.result) (run_at x v) (run_at x u) (c.finish_by.ensures.leads x pos h))
