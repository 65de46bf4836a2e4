use Rattle.std.proofs.Common.{◌≡◌, drop}
use Rattle.sl_model.specs.Words.{first_from}
use Rattle.sl_model.specs.Accounts.{lag_by}
use Rattle.sl_proto.specs.Told.{accounts_of}
use Rattle.sl_proto.proofs.verdicts.first_lag.Given as goal

abbrev pub invariant-loop-unit : goal.invariant-loop-unit
invariant-loop-unit l = first_from l.unit (lag_by l.k) (drop l.unit (accounts_of l.observer.state)) ≡ first_from 0 (lag_by l.k) (accounts_of l.observer.state)
