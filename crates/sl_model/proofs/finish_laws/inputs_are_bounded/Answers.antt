use Rattle.sl_model.proofs.finish_laws.inputs_are_bounded.Goals as goal
use Rattle.sl_model.proofs.Bounded.Scripts.{input-within}

pub returns : goal.returns
returns c i lost fs n f = input-within i lost fs n f
