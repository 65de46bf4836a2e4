use Rattle.sl_model.specs.World.{world}
use Rattle.sl_model.proofs.cut_laws.uncollected_numbers_are_near.Goals as goal
use Rattle.sl_model.proofs.Worlds.FifoRuns.{fifo_run}
use Rattle.sl_model.proofs.Cuts.Collected.{in-window, uncollected-near}

pub returns : goal.returns
returns c s lost es a ring n r = let t = c.nets_are_wired.ensures s.net n in uncollected-near s lost (world s lost es) a ring r t (fifo_run s lost es) (in-window s lost es t)
