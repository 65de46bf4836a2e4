use Rattle.std.proofs.Common.{◌≡◌, ◌≤◌, map, length}
use Rattle.sl_world.specs.Looked.{HasRuns, entry_of}
use Rattle.sl_world.proofs.looked.count_runs.Given as goal

abbrev pub invariant-loop-at : goal.invariant-loop-at
invariant-loop-at l =
    record {
      entries : map entry_of l.steps ≡ map entry_of l.fn.steps;
      runs : HasRuns l.steps;
      within : l.at ≤ length l.steps;
    }

abbrev pub decreases-loop-at : goal.decreases-loop-at
decreases-loop-at l = l.at
