use Rattle.std.proofs.Common.{◌≡◌, ◌++◌, drop, flat_map}
use Rattle.sl_report.specs.TraceText.{entry_line}
use Rattle.sl_report.proofs.trace.push_entries.Given as goal

abbrev pub invariant-loop-entry : goal.invariant-loop-entry
invariant-loop-entry l = l.out.items ++ flat_map (entry_line l.net) (drop l.entry-index l.entries) ≡ l.fn.out.items ++ flat_map (entry_line l.net) l.entries
