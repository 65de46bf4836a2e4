use Rattle.std.proofs.Common.{◌<◌}
use Rattle.sl_model.specs.End.{IsFin}
use Rattle.sl_proto.specs.Standing.{Case, world_of, StandsFor}
use Rattle.sl_proto.specs.Calls.{Keeps, LeadsFrom}
use Rattle.sl_proto.proofs.finishing.finish_by.Given as goal

abbrev pub invariant-loop-round : goal.invariant-loop-round
invariant-loop-round g l = let scene = g.T.Taker.scene in record {
  keeps : Keeps scene g.T.Taker.fixed l.net l.fn.taker l.taker;
  leads : (x : Case) → 0 < x.setup.window → StandsFor l.net x (scene l.fn.taker) → LeadsFrom x IsFin (scene l.fn.taker) (IsFin x.setup x.lost (world_of x (scene l.taker))) (scene l.taker);
}
