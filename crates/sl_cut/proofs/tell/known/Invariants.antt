use Rattle.sl_model.specs.Knowledge.{known}
use Rattle.std.proofs.Common.{take, ◌≡◌}
use Rattle.std.specs.Prelude.{reverse}
use Rattle.sl_cut.proofs.tell.known.Given as goal

abbrev pub invariant-loop-step : goal.invariant-loop-step
invariant-loop-step l = l.known ≡ known l.place (reverse (take l.step-index l.steps))
