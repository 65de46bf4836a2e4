use Rattle.std.proofs.Common.{refl}
use Rattle.sl_model.specs.World.{world}
use Rattle.sl_model.proofs.finish_laws.idle_passes_settle.Goals as goal
use Rattle.sl_model.proofs.Finishing.NetWiring.{wiring}
use Rattle.sl_model.proofs.Finishing.Idle.{settled-by-pass}

pub returns : goal.returns
returns c s lost es n h = settled-by-pass s lost (wiring s.net n) (world s lost es) (es, refl) h
