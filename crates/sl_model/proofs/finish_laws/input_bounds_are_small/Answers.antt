use Rattle.sl_model.proofs.finish_laws.input_bounds_are_small.Goals as goal
use Rattle.sl_model.proofs.Bounded.SortCounts.{small-input}

pub returns : goal.returns
returns c i n k f t p h = small-input i n k f t p h
