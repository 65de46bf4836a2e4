use Rattle.sl_model.proofs.Saved.Settled.{each-late}
use Rattle.sl_model.proofs.saved_laws.late_is_credited.Goals as goal

pub returns : goal.returns
returns c = each-late
