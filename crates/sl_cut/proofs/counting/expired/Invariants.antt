use Rattle.sl_model.specs.Counting.{expired}
use Rattle.std.proofs.Common.{take, ◌≡◌, ◌≤◌}
use Rattle.std.specs.Prelude.{reverse}
use Rattle.sl_cut.proofs.counting.expired.Given as goal

abbrev pub invariant-loop-step : goal.invariant-loop-step
invariant-loop-step l = record { value : l.expired ≡ expired (reverse (take l.step-index l.steps)); bound : l.expired ≤ l.step-index }
