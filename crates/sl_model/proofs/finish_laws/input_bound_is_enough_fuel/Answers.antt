use Rattle.std.proofs.Common.{ap, is_some}
use Rattle.sl_model.proofs.finish_laws.input_bound_is_enough_fuel.Goals as goal
use Rattle.sl_model.proofs.Bounded.Scripts.{input-enough}

pub returns : goal.returns
returns c i lost fuel n h = ap is_some (input-enough i lost fuel n h).is
