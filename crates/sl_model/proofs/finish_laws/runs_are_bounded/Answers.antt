use Rattle.sl_model.proofs.finish_laws.runs_are_bounded.Goals as goal
use Rattle.sl_model.proofs.Bounded.BoundedTurns.{run-within}

pub returns : goal.returns
returns c s lost es fs n f = run-within s lost es fs n f
