use Rattle.sl_app.proofs.run.serve_run.Goals as goal

pub returns-clause-report : goal.returns-clause-report
returns-clause-report c = c.report_run.ensures.stepped c.in_ok-ran.ensures
