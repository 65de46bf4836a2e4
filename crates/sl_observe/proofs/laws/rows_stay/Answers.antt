use Rattle.sl_observe.proofs.Runs.{rows_are_kept}
use Rattle.sl_observe.proofs.laws.rows_stay.Goals as goal

pub returns : goal.returns
returns c = rows_are_kept
