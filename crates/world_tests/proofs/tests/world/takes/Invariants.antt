use Rattle.std.proofs.Common.{◌≡◌, length}
use Rattle.sl_world.specs.World.{scene}
use Rattle.world_tests.specs.Plans.{ring}
use Rattle.world_tests.proofs.tests.world.takes.Given as goal

abbrev pub invariant-loop-i : goal.invariant-loop-i
invariant-loop-i l = ((scene l.world).plan ≡ ring) × (length (scene l.world).states ≡ 2)
