use Rattle.std.proofs.Common.{arith, string_bytes, drop}
use Rattle.sl_report.specs.Report.{rows_text}
use Rattle.sl_report.proofs.TextLemmas.{rows_none, written_all}
use Rattle.sl_report.proofs.findings.push_rows.Goals as goal

pub returns : goal.returns
returns c = written_all (string_bytes c.loop-i.out) (string_bytes c.args.out.now) (rows_text c.args.net.now (drop c.loop-i.i c.args.actors.now) (drop c.loop-i.i c.args.rows.now))
    (rows_text c.args.net.now c.args.actors.now c.args.rows.now) c.loop-i.invariant (rows_none c.args.net.now c.args.actors.now c.args.rows.now c.loop-i.i (omega (arith, c.min-i-end.ensures)))
