use Rattle.std.proofs.Common.{◌≡◌, take, map}
use Rattle.sl_model.specs.Accounts.{row_of, value_row}
use Rattle.sl_proto.specs.Told.{accounts_of}
use Rattle.sl_proto.proofs.verdicts.rows.Given as goal

abbrev pub invariant-loop-unit : goal.invariant-loop-unit
invariant-loop-unit l = l.items.items ≡ map (λ a. value_row (row_of l.k a)) (take l.unit (accounts_of l.observer.state))
