use Rattle.std.proofs.Common.{◌≡◌, ◌++◌, drop, string_bytes}
use Rattle.std.specs.List.{flat_map}
use Rattle.sl_value.specs.ValuesText.{value_finding_text}
use Rattle.sl_value.proofs.text.push_findings.Given as goal

abbrev pub invariant-loop-finding : goal.invariant-loop-finding
invariant-loop-finding l = string_bytes l.out ++ flat_map (value_finding_text l.net) (drop l.finding-index l.findings) ≡ string_bytes l.fn.out ++ flat_map (value_finding_text l.net) l.findings
