use Rattle.std.proofs.Common.{◌≡◌}
use Rattle.sl_world.specs.World.{scene}
use Rattle.thread_tests.proofs.tests.machines.pass.Given as goal

abbrev pub invariant-loop-actor : goal.invariant-loop-actor
invariant-loop-actor l = (scene l.world).plan ≡ l.wiring
