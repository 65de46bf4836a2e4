use Rattle.std.proofs.Common.{refl}
use Rattle.sl_model.specs.World.{world}
use Rattle.sl_model.proofs.Finishing.Idle.{issued-within}
use Rattle.sl_model.proofs.Finishing.NetWiring.{wiring}
use Rattle.sl_model.proofs.finish_laws.issues_are_counted.Goals as goal

pub returns : goal.returns
returns c s lost es n = issued-within s lost (wiring s.net n) (world s lost es) (es, refl)
