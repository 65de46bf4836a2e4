use Rattle.std.proofs.Common.{◌≡◌, ◌++◌, map, string_bytes}
use Rattle.std.specs.List.{flat_map, range_with_len}
use Rattle.sl_model.specs.Accounts.{finding_by}
use Rattle.sl_report.specs.Report.{finding_text}
use Rattle.sl_proto.specs.Told.{accounts_of}
use Rattle.sl_emul.proofs.reporting.push_snapshots.Given as goal

abbrev pub invariant-loop-done : goal.invariant-loop-done
invariant-loop-done l = string_bytes l.out ≡ string_bytes l.fn.out
    ++ flat_map (finding_text l.net) (map (finding_by l.observer.state.issued (accounts_of l.observer.state)) (range_with_len 1 l.done))
