use Rattle.sl_model.specs.Counting.{bytes}
use Rattle.std.proofs.Common.{take, ◌*◌, ◌≡◌, ◌≤◌}
use Rattle.std.specs.Prelude.{reverse}
use Rattle.sl_cut.proofs.counting.bytes.Given as goal

abbrev pub invariant-loop-step : goal.invariant-loop-step
invariant-loop-step l = record { value : l.bytes ≡ bytes (reverse (take l.step-index l.steps)); bound : l.bytes ≤ 65535 * l.step-index }
