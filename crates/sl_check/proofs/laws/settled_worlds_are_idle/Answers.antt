use Rattle.sl_model.specs.World.{world}
use Rattle.sl_check.proofs.SettledPass.{pass-idle}
use Rattle.sl_check.proofs.laws.settled_worlds_are_idle.Goals as goal

pub returns : goal.returns
returns c = λ s lost es net settled. pass-idle s lost (world s lost es) (c.nets_are_wired.ensures s.net net) settled
