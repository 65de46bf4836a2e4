use Rattle.sl_model.proofs.Saved.Windows.{none-miscredited}
use Rattle.sl_model.proofs.row_laws.enough_credits_miscredit_nothing.Goals as goal

pub returns : goal.returns
returns c s lost es u k i t q m = none-miscredited s lost es u k i (c.nets_are_wired.ensures s.net t) q m
