use Rattle.std.proofs.Common.{◌≡◌}
use Rattle.sl_world.specs.World.{scene}
use Rattle.world_tests.specs.Plans.{ring}
use Rattle.world_tests.proofs.tests.world.go_right.Given as goal

abbrev pub invariant-loop-actor : goal.invariant-loop-actor
invariant-loop-actor l = (scene l.world).plan ≡ ring
