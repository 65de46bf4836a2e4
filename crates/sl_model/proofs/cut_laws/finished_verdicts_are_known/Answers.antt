use Rattle.sl_model.specs.World.{world}
use Rattle.sl_model.proofs.cut_laws.finished_verdicts_are_known.Goals as goal
use Rattle.sl_model.proofs.Worlds.FifoRuns.{fifo_run}
use Rattle.sl_model.proofs.Cuts.Known.{finished-verdict}

pub returns : goal.returns
returns c s lost es k n f p = finished-verdict s lost (world s lost es) k (c.nets_are_wired.ensures s.net n) (fifo_run s lost es) f p
