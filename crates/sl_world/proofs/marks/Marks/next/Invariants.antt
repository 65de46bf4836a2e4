use Rattle.std.proofs.Common.{◌-◌, ◌≤◌, ◌<◌, ◌≡◌, ℕ}
use Rattle.sl_world.specs.Marks.{mark_at}
use Rattle.sl_world.proofs.marks.Marks.next.Given as goal

abbrev pub invariant-loop-at : goal.invariant-loop-at
invariant-loop-at l =
    record {
      from : l.from ≤ l.at;
      none : (k : ℕ) → l.from ≤ k → k < l.at → mark_at l.self k ≡ 0;
    }

abbrev pub decreases-loop-at : goal.decreases-loop-at
decreases-loop-at l = l.end - l.at
