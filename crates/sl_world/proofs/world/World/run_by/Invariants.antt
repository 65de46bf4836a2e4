use Rattle.std.proofs.Common.{◌-◌, ◌≤◌, ◌<◌, ◌≢◌, [], length}
use Rattle.sl_world.specs.Scene.{line_at}
use Rattle.sl_world.specs.Looked.{step_at}
use Rattle.sl_world.specs.World.{scene}
use Rattle.sl_world.proofs.RunLemmas.{IsSoFar}
use Rattle.sl_world.proofs.world.World.run_by.Given as goal

abbrev pub invariant-loop-at : goal.invariant-loop-at
invariant-loop-at g l =
    record {
      within : l.at ≤ length l.schedule;
      front : IsSoFar g.A.Machine.rules (scene l.fn.self) (scene l.self) l.schedule l.at;
      some : l.at < length l.steps → let link = (step_at l.steps l.at).link in link < length (scene l.self).plan.links → (line_at (scene l.self).lines link).queue ≢ [];
    }

abbrev pub decreases-loop-at : goal.decreases-loop-at
decreases-loop-at g l = length l.schedule - l.at
