use Rattle.std.proofs.Common.{arith, string_bytes, drop, map}
use Rattle.sl_report.specs.Report.{hosts_text}
use Rattle.sl_report.proofs.TextLemmas.{hosts_none, written_all}
use Rattle.sl_report.proofs.lines.push_host_lines.Goals as goal

pub returns : goal.returns
returns c = written_all (string_bytes c.loop-i.out) (string_bytes c.args.out.now) (hosts_text (map (λ host. host.name) (drop c.loop-i.i c.args.hosts.now)) (drop c.loop-i.i c.args.sent.now) (drop c.loop-i.i c.args.delivered.now))
    (hosts_text (map (λ host. host.name) c.args.hosts.now) c.args.sent.now c.args.delivered.now) c.loop-i.invariant (hosts_none c.args.hosts.now c.args.sent.now c.args.delivered.now c.loop-i.i (omega (arith, c.min.ensures, c.min-count.ensures)))
