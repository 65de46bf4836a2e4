use Rattle.sl_model.specs.History.{taken}
use Rattle.std.proofs.Common.{take, ◌≡◌, ◌≤◌}
use Rattle.std.specs.Prelude.{reverse}
use Rattle.sl_cut.proofs.tell.taken.Given as goal

abbrev pub invariant-loop-step : goal.invariant-loop-step
invariant-loop-step l = record { value : l.taken ≡ taken l.choice (reverse (take l.step-index l.steps)); bound : l.taken ≤ l.step-index }
