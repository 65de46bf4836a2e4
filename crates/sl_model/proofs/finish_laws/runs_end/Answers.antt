use Rattle.sl_model.proofs.finish_laws.runs_end.Goals as goal
use Rattle.sl_model.proofs.Bounded.BoundedTurns.{run-ends}

pub returns : goal.returns
returns c s lost es fs n t p f = run-ends s lost es fs n t p f
