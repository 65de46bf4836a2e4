use Rattle.sl_read.proofs.Settled.{accepted}
use Rattle.sl_read.proofs.laws.inputs_are_accepted.Goals as goal

pub returns : goal.returns
returns c = λ bytes input h. accepted bytes input h
