use Rattle.std.proofs.Common.{◌≡◌, take}
use Rattle.sl_layout.specs.Wiring.{plan_of}
use Rattle.sl_model.specs.Books.{schedule_of}
use Rattle.sl_world.specs.World.{scene}
use Rattle.sl_proto.specs.Standing.{Case, StandsFor, HasObserver}
use Rattle.sl_check.proofs.nodes.follow.Given as goal

abbrev pub invariant-loop-i : goal.invariant-loop-i
invariant-loop-i l = record {
  plan : (scene l.world).plan ≡ plan_of l.net;
  observer : HasObserver (scene l.fn.world) → HasObserver (scene l.world);
  stands : (x : Case) → StandsFor l.net x (scene l.fn.world) → StandsFor l.net x (scene l.world);
  taken : (x : Case) → StandsFor l.net x (scene l.fn.world) → schedule_of (scene l.world).book ≡ take l.i l.schedule;
}
