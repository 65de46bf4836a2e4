use Rattle.std.proofs.Common.{refl}
use Rattle.sl_model.specs.World.{world}
use Rattle.sl_model.proofs.finish_laws.turns_lower_the_potential.Goals as goal
use Rattle.sl_model.proofs.Finishing.NetWiring.{wiring}
use Rattle.sl_model.proofs.Bounded.TurnPays.{potential-turn}

pub returns : goal.returns
returns c s lost es e step n h = potential-turn s lost (wiring s.net n) (world s lost es) (es, refl) e step h
