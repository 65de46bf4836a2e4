use Rattle.sl_observe.proofs.Reported.{rows_are_reported}
use Rattle.sl_observe.proofs.laws.rows_come_in_reports.Goals as goal

pub returns : goal.returns
returns c = rows_are_reported
