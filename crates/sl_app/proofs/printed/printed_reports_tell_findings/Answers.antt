use Rattle.std.proofs.Common.{arith}
use Rattle.sl_app.proofs.Printing.{facts-of, run-tells}
use Rattle.sl_app.proofs.printed.printed_reports_tell_findings.Goals as goal

pub returns-clause-stepped : goal.returns-clause-stepped
returns-clause-stepped c = λ r book front nodes text run same.
    let facts = facts-of c.args.input.now _ c.input.view_is c.findings_are_sayable.ensures c.reports_tell_findings.ensures in
    run-tells r c.args.input.now run.input book run.trace text facts c.inputs_are_accepted.ensures c.accepted_inputs_can_run.ensures run.accepted same (omega (arith, run.run.run.within, run.small)) run.run.text_is

pub returns-clause-threaded : goal.returns-clause-threaded
returns-clause-threaded c = λ r book front nodes text run same.
    let facts = facts-of c.args.input.now _ c.input.view_is c.findings_are_sayable.ensures c.reports_tell_findings.ensures in
    run-tells r c.args.input.now run.input book run.trace text facts c.inputs_are_accepted.ensures c.accepted_inputs_can_run.ensures run.accepted same (omega (arith, run.run.run.within, run.small)) run.run.text_is
