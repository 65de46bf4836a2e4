use Rattle.sl_model.specs.History.{id}
use Rattle.sl_model.specs.Verdict.{skipped_to}
use Rattle.std.proofs.Common.{take, ◌≡◌}
use Rattle.std.specs.Prelude.{reverse}
use Rattle.sl_cut.proofs.judge.skipped_to.Given as goal

abbrev pub invariant-loop-step : goal.invariant-loop-step
invariant-loop-step l = record { id : l.id ≡ id (reverse (take l.step-index l.steps)); skipped : l.skipped ≡ skipped_to l.snapshot (reverse (take l.step-index l.steps)) }
