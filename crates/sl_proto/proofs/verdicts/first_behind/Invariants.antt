use Rattle.std.proofs.Common.{◌≡◌, drop}
use Rattle.sl_model.specs.Words.{first_from}
use Rattle.sl_model.specs.Accounts.{behind}
use Rattle.sl_proto.proofs.verdicts.first_behind.Given as goal

abbrev pub invariant-loop-number : goal.invariant-loop-number
invariant-loop-number l = record { place : l.place ≡ l.number-index; rest : first_from l.number-index (behind l.k) (drop l.number-index l.numbers) ≡ first_from 0 (behind l.k) l.numbers }
