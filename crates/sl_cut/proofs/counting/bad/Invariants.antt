use Rattle.sl_model.specs.Counting.{bad}
use Rattle.std.proofs.Common.{take, ◌≡◌, ◌≤◌}
use Rattle.std.specs.Prelude.{reverse}
use Rattle.sl_cut.proofs.counting.bad.Given as goal

abbrev pub invariant-loop-step : goal.invariant-loop-step
invariant-loop-step l = record { value : l.bad ≡ bad (reverse (take l.step-index l.steps)); bound : l.bad ≤ l.step-index }
