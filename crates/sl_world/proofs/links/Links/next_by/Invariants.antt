use Rattle.std.proofs.Common.{◌-◌, ◌≤◌, ◌<◌, ◌≡◌, ℕ, [], length}
use Rattle.sl_world.specs.Scene.{line_at}
use Rattle.sl_world.specs.Looked.{step_at}
use Rattle.sl_world.proofs.links.Links.next_by.Given as goal

abbrev pub invariant-loop-at : goal.invariant-loop-at
invariant-loop-at g l =
    record {
      from : l.from ≤ l.at;
      within : l.at ≤ length l.steps;
      nothing : (k : ℕ) → l.from ≤ k → k < l.at → let link = (step_at l.steps k).link in (link < length l.self.plan.links) × ((line_at l.self.lines link).queue ≡ []);
    }

abbrev pub decreases-loop-at : goal.decreases-loop-at
decreases-loop-at g l = length l.steps - l.at
