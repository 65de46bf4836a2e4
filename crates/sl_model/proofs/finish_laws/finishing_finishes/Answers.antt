use Rattle.std.proofs.Common.{refl}
use Rattle.sl_model.specs.World.{world}
use Rattle.sl_model.proofs.finish_laws.finishing_finishes.Goals as goal
use Rattle.sl_model.proofs.Finishing.NetWiring.{wiring}
use Rattle.sl_model.proofs.Finishing.Finished.{fin-is-finished}

pub returns : goal.returns
returns c s lost es fs n t p f = fin-is-finished s lost (wiring s.net n) t p (world s lost es) (es, refl) fs f
