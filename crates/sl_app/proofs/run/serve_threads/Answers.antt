use Rattle.std.proofs.Common.{arith}
use Rattle.sl_app.proofs.run.serve_threads.Goals as goal

pub returns-clause-passed : goal.returns-clause-passed
returns-clause-passed g c = λ low actor here round few. c.in_ok-ran.ensures.passed (omega (arith, low, c.in_ok-report_run.ensures.front)) actor here round few
