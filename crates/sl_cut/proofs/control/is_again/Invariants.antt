use Rattle.sl_model.specs.Knowledge.{is_again}
use Rattle.std.proofs.Common.{take, ◌≡◌}
use Rattle.std.specs.Prelude.{reverse}
use Rattle.sl_cut.proofs.control.is_again.Given as goal

abbrev pub invariant-loop-step : goal.invariant-loop-step
invariant-loop-step l = l.again ≡ is_again l.sweep l.one (reverse (take l.step-index l.steps))
