use Rattle.std.proofs.Common.{◌≡◌, take}
use Rattle.sl_world.specs.World.{scene}
use Rattle.sl_proto.specs.Told.{all_drops}
use Rattle.sl_proto.proofs.gather.drops.Given as goal

abbrev pub invariant-loop-actor : goal.invariant-loop-actor
invariant-loop-actor l = record {
  bad : l.bad ≡ (all_drops (take l.actor (scene l.world).states)).bad;
  expired : l.expired ≡ (all_drops (take l.actor (scene l.world).states)).expired;
  noroute : l.noroute ≡ (all_drops (take l.actor (scene l.world).states)).noroute;
}
