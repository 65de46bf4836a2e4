use Rattle.std.proofs.Common.{◌≡◌, ◌++◌, drop, map, string_bytes}
use Rattle.sl_report.specs.Report.{hosts_text}
use Rattle.sl_report.proofs.lines.push_host_lines.Given as goal

abbrev pub invariant-loop-i : goal.invariant-loop-i
invariant-loop-i l = string_bytes l.out ++ hosts_text (map (λ host. host.name) (drop l.i l.hosts)) (drop l.i l.sent) (drop l.i l.delivered)
    ≡ string_bytes l.fn.out ++ hosts_text (map (λ host. host.name) l.hosts) l.sent l.delivered
