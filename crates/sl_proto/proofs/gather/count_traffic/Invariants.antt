use Rattle.std.proofs.Common.{◌≡◌, take}
use Rattle.sl_model.specs.Words.{numbers}
use Rattle.sl_proto.specs.Told.{sent_told, delivered_told}
use Rattle.sl_proto.proofs.gather.count_traffic.Given as goal

abbrev pub invariant-loop-actor : goal.invariant-loop-actor
invariant-loop-actor g l = let states = (g.T.Taker.scene l.taker).states in record {
  sent : l.sent.items ≡ numbers sent_told (take l.actor states);
  delivered : l.delivered.items ≡ numbers delivered_told (take l.actor states);
}
