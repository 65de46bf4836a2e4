use Rattle.sl_model.specs.Verdict.{holds_floor}
use Rattle.sl_model.specs.Words.{first_from}
use Rattle.std.proofs.Common.{drop, ◌≡◌}
use Rattle.sl_cut.proofs.judge.holder_of.Given as goal

abbrev pub invariant-loop-unit : goal.invariant-loop-unit
invariant-loop-unit l = record { place : l.place ≡ l.unit-index; rest : first_from l.unit-index (holds_floor l.net l.world) (drop l.unit-index l.units) ≡ first_from 0 (holds_floor l.net l.world) l.units }
