use Rattle.sl_world.specs.World.{scene}
use Rattle.sl_world.proofs.RunLemmas.{IsSoFar}
use Rattle.sl_world.proofs.world.World.run_each.Given as goal

abbrev pub invariant-loop-at : goal.invariant-loop-at
invariant-loop-at g l = IsSoFar g.A.Machine.rules (scene l.fn.self) (scene l.self) l.schedule l.at
