use Rattle.sl_model.proofs.Saved.Rows.{row-stays}
use Rattle.sl_model.proofs.saved_laws.row_stays.Goals as goal

pub returns : goal.returns
returns c = row-stays
