use Rattle.sl_model.proofs.finish_laws.first_net_is_bounded.Goals as goal
use Rattle.sl_model.proofs.Bounded.Scripts.{first-bound}

pub returns : goal.returns
returns c s sweeps f k t = first-bound s sweeps f k t
