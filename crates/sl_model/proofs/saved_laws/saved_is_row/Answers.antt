use Rattle.sl_model.proofs.Saved.Rows.{saved-is-row}
use Rattle.sl_model.proofs.saved_laws.saved_is_row.Goals as goal

pub returns : goal.returns
returns c = saved-is-row
