use Rattle.std.proofs.Common.{◌≡◌, ◌++◌, drop, string_bytes}
use Rattle.sl_report.specs.Report.{rows_text}
use Rattle.sl_report.proofs.findings.push_rows.Given as goal

abbrev pub invariant-loop-i : goal.invariant-loop-i
invariant-loop-i l = string_bytes l.out ++ rows_text l.net (drop l.i l.actors) (drop l.i l.rows) ≡ string_bytes l.fn.out ++ rows_text l.net l.actors l.rows
