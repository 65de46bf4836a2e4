use Rattle.std.proofs.Common.{arith, string_bytes, drop}
use Rattle.sl_report.specs.Report.{totals_text}
use Rattle.sl_report.proofs.TextLemmas.{totals_none, written_all}
use Rattle.sl_report.proofs.findings.push_totals.Goals as goal

pub returns : goal.returns
returns c = written_all (string_bytes c.loop-i.out) (string_bytes c.args.out.now) (totals_text c.args.net.now (drop c.loop-i.i c.args.links.now) (drop c.loop-i.i c.args.totals.now))
    (totals_text c.args.net.now c.args.links.now c.args.totals.now) c.loop-i.invariant (totals_none c.args.net.now c.args.links.now c.args.totals.now c.loop-i.i (omega (arith, c.min-i-end.ensures)))
