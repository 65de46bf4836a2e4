use Rattle.sl_model.proofs.finish_laws.bounds_are_small.Goals as goal
use Rattle.sl_model.proofs.Bounded.SortCounts.{small-bound}

pub returns : goal.returns
returns c s sweeps n k f t p h = small-bound s sweeps n k f t p h
