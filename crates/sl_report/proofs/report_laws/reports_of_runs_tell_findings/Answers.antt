use Rattle.sl_model.specs.Findings.{findings}
use Rattle.sl_report.proofs.report_laws.reports_of_runs_tell_findings.Goals as goal

pub returns : goal.returns
returns c count s t lost loss es fs run other =
    c.reports_tell_findings.ensures count (findings s lost es) (findings t loss fs) (c.findings_are_sayable.ensures count s lost es run) (c.findings_are_sayable.ensures count t loss fs other)
