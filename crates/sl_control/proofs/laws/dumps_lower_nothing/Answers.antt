use Rattle.sl_control.proofs.Lowering.{lowers-nothing}
use Rattle.sl_control.proofs.laws.dumps_lower_nothing.Goals as goal

pub returns : goal.returns
returns c = lowers-nothing
