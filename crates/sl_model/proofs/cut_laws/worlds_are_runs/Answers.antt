use Rattle.sl_model.proofs.cut_laws.worlds_are_runs.Goals as goal
use Rattle.sl_model.proofs.Worlds.FifoRuns.{fifo_run}

pub returns : goal.returns
returns c s lost es = fifo_run s lost es
