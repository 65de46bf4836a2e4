use Rattle.std.proofs.Common.{◌≡◌, map}
use Rattle.std.specs.List.{range_with_len}
use Rattle.sl_model.specs.Accounts.{finding_by}
use Rattle.sl_proto.specs.Told.{accounts_of}
use Rattle.sl_proto.proofs.verdicts.finding_list.Given as goal

abbrev pub invariant-loop-done : goal.invariant-loop-done
invariant-loop-done l = l.items.items ≡ map (finding_by l.observer.state.issued (accounts_of l.observer.state)) (range_with_len 1 l.done)
