use Rattle.std.proofs.Common.{◌≡◌}
use Rattle.sl_world.specs.World.{scene}
use Rattle.actor_tests.specs.Lines.{in_line}
use Rattle.actor_tests.proofs.merge.turns_on.Given as goal

abbrev pub invariant-loop-turns : goal.invariant-loop-turns
invariant-loop-turns l = (scene l.world).plan ≡ in_line
