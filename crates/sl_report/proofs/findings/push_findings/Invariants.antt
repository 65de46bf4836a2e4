use Rattle.std.proofs.Common.{◌≡◌, ◌++◌, drop, string_bytes}
use Rattle.std.specs.List.{flat_map}
use Rattle.sl_report.specs.Report.{finding_text}
use Rattle.sl_report.proofs.findings.push_findings.Given as goal

abbrev pub invariant-loop-finding : goal.invariant-loop-finding
invariant-loop-finding l = string_bytes l.out ++ flat_map (finding_text l.net) (drop l.finding-index l.findings) ≡ string_bytes l.fn.out ++ flat_map (finding_text l.net) l.findings
