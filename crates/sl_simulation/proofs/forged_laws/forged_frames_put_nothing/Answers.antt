use Rattle.sl_model.specs.World.{world}
use Rattle.sl_simulation.proofs.Taken.{forged-puts}
use Rattle.sl_simulation.proofs.forged_laws.forged_frames_put_nothing.Goals as goal

pub returns : goal.returns
returns c = λ s lost es e step bytes n t q. forged-puts s lost (world s lost es) e step bytes n t q
