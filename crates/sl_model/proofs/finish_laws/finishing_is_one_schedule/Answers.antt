use Rattle.sl_model.specs.World.{world}
use Rattle.sl_model.proofs.finish_laws.finishing_is_one_schedule.Goals as goal
use Rattle.sl_model.proofs.Finishing.Fuel.{one-finishing}

pub returns : goal.returns
returns c s lost es fs gs e f = one-finishing s lost (world s lost es) fs gs e f
