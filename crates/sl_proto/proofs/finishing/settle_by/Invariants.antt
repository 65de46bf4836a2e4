use Rattle.sl_proto.specs.Standing.{Case, world_of, StandsFor}
use Rattle.sl_proto.specs.Calls.{Keeps, LeadsFrom}
use Rattle.sl_proto.specs.Fronts.{SettlesBy}
use Rattle.sl_proto.proofs.finishing.settle_by.Given as goal

abbrev pub invariant-loop-pass : goal.invariant-loop-pass
invariant-loop-pass g l = let scene = g.T.Taker.scene in record {
  keeps : Keeps scene g.T.Taker.fixed l.net l.fn.taker l.taker;
  leads : (x : Case) → StandsFor l.net x (scene l.fn.taker) → LeadsFrom x SettlesBy (scene l.fn.taker) (SettlesBy x.setup x.lost (world_of x (scene l.taker))) (scene l.taker);
}
