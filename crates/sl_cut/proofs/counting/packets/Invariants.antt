use Rattle.sl_model.specs.Counting.{packets}
use Rattle.std.proofs.Common.{take, ◌≡◌, ◌≤◌}
use Rattle.std.specs.Prelude.{reverse}
use Rattle.sl_cut.proofs.counting.packets.Given as goal

abbrev pub invariant-loop-step : goal.invariant-loop-step
invariant-loop-step l = record { value : l.packets ≡ packets (reverse (take l.step-index l.steps)); bound : l.packets ≤ l.step-index }
