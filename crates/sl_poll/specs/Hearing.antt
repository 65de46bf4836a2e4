-- Whoever is told what a run does with data packets: `heard net first now ps cs` says that between these two states it was told the pairs ps and the steps cs.
--     Hears heard net old new ps cs     whatever it was told before, it was now told these besides
use Rattle.std.specs.Prelude.{◌≡◌, List, ◌++◌}
use Rattle.sl_layout.specs.Net.{Net}
use Rattle.sl_poll.specs.declared.trail.Counted.{Counted}
use Rattle.sl_poll.specs.declared.trail.Pair.{Pair}
use Rattle.sl_poll.specs.declared.trail.Trail.{Trail}

abbrev pub Hears : {L : Type 0} → (Net → L → L → List Pair → List Counted → Type 0) → Net → L → L → List Pair → List Counted → Type 0
Hears {L} heard net old new ps cs = (first : L) (before : List Pair) (counts : List Counted) → heard net first old before counts
    → heard net first new (before ++ ps) (counts ++ cs)

-- a trail that was empty at first has all that it was told
pub record HasKept (net : Net) (first now : Trail) (ps : List Pair) (cs : List Counted) : Type 0 where
  pub pairs : now.pairs ≡ first.pairs ++ ps
  pub counted : now.counted ≡ first.counted ++ cs
