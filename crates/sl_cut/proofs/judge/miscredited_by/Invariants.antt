use Rattle.sl_model.specs.History.{id}
use Rattle.sl_model.specs.Verdict.{adopted, miscredits}
use Rattle.sl_route.specs.Least.{least}
use Rattle.std.proofs.Common.{take, ◌≡◌}
use Rattle.std.specs.Prelude.{reverse}
use Rattle.sl_cut.proofs.judge.miscredited_by.Given as goal

abbrev pub invariant-loop-step : goal.invariant-loop-step
invariant-loop-step l = record {
  id : l.id ≡ id (reverse (take l.step-index l.steps));
  by : l.by ≡ least (miscredits l.credits l.snapshot (reverse (take l.step-index l.steps)));
  adopted : l.adopted.items ≡ adopted (reverse (take l.step-index l.steps));
}
