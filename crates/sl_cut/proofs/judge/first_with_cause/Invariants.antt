use Rattle.sl_model.specs.History.{history}
use Rattle.sl_model.specs.Verdict.{cause}
use Rattle.sl_model.specs.Words.{first_from}
use Rattle.std.proofs.Common.{drop, ◌≡◌}
use Rattle.sl_cut.proofs.judge.first_with_cause.Given as goal

abbrev pub invariant-loop-unit : goal.invariant-loop-unit
invariant-loop-unit l = record { place : l.place ≡ l.unit-index; rest : first_from l.unit-index (λ u. cause l.credits l.snapshot (history l.world u)) (drop l.unit-index l.units) ≡ first_from 0 (λ u. cause l.credits l.snapshot (history l.world u)) l.units }
