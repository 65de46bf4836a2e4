use Rattle.sl_model.proofs.Saved.Rows.{first-adopted}
use Rattle.sl_model.proofs.saved_laws.one_credit_is_the_id.Goals as goal

pub returns : goal.returns
returns c = first-adopted
