use Rattle.std.proofs.Common.{◌≡◌, drop}
use Rattle.sl_model.specs.Words.{first_from}
use Rattle.sl_model.specs.Accounts.{floor_by, holds}
use Rattle.sl_proto.specs.Told.{accounts_of}
use Rattle.sl_proto.proofs.verdicts.holder.Given as goal

abbrev pub invariant-loop-unit : goal.invariant-loop-unit
invariant-loop-unit l = let o = l.observer.state in let f = holds (floor_by o.issued (accounts_of o)) in first_from l.unit f (drop l.unit (accounts_of o)) ≡ first_from 0 f (accounts_of o)
