use Rattle.sl_model.specs.World.{world}
use Rattle.sl_model.proofs.Worlds.FifoRuns.{fifo_run}
use Rattle.sl_model.proofs.Cuts.Known.{whole-verdict}
use Rattle.sl_model.proofs.verdict_laws.consistent_snapshots_are_whole.Goals as goal

pub returns : goal.returns
returns c s lost es k n p = whole-verdict s lost (world s lost es) k (c.nets_are_wired.ensures s.net n) (fifo_run s lost es) p
