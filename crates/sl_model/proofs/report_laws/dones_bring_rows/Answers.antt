use Rattle.sl_model.proofs.Saved.Windows.{unit-done}
use Rattle.sl_model.proofs.report_laws.dones_bring_rows.Goals as goal

pub returns : goal.returns
returns c s lost es d u n i step t e q m = unit-done s lost es d n step (c.nets_are_wired.ensures s.net t) e u i q m
