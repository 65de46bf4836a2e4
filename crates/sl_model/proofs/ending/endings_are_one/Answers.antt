use Rattle.sl_model.proofs.Finishing.Endings.{one_ending}
use Rattle.sl_model.proofs.ending.endings_are_one.Goals as goal

pub returns : goal.returns
returns c = one_ending
