use Rattle.std.proofs.Common.{◌≡◌}
use Rattle.sl_world.specs.World.{scene}
use Rattle.thread_tests.proofs.tests.machines.settle.Given as goal

abbrev pub invariant-loop : goal.invariant-loop
invariant-loop l = (scene l.world).plan ≡ l.wiring
