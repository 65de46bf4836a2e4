use Rattle.std.proofs.Common.{ap, is_some}
use Rattle.sl_model.proofs.finish_laws.bound_is_enough_fuel.Goals as goal
use Rattle.sl_model.proofs.Finishing.Enough.{bound-enough}

pub returns : goal.returns
returns c s lost es fuel n h = ap is_some (bound-enough s lost es fuel n h).is
