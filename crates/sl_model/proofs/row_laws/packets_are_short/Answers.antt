use Rattle.sl_model.proofs.Worlds.Passing.{all-short}
use Rattle.sl_model.proofs.row_laws.packets_are_short.Goals as goal

pub returns : goal.returns
returns c s lost es u t = all-short s lost es u t
