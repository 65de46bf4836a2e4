use Rattle.sl_model.specs.History.{last}
use Rattle.std.proofs.Common.{take, ◌≡◌}
use Rattle.std.specs.Prelude.{reverse}
use Rattle.sl_cut.proofs.tell.last.Given as goal

abbrev pub invariant-loop-step : goal.invariant-loop-step
invariant-loop-step l = l.last ≡ last l.choice (reverse (take l.step-index l.steps))
