use Rattle.std.proofs.Common.{◌≡◌, ◌++◌, drop, string_bytes}
use Rattle.sl_report.specs.Report.{totals_text}
use Rattle.sl_report.proofs.findings.push_totals.Given as goal

abbrev pub invariant-loop-i : goal.invariant-loop-i
invariant-loop-i l = string_bytes l.out ++ totals_text l.net (drop l.i l.links) (drop l.i l.totals) ≡ string_bytes l.fn.out ++ totals_text l.net l.links l.totals
