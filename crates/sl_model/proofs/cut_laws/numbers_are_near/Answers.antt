use Rattle.sl_model.specs.World.{world}
use Rattle.sl_model.proofs.cut_laws.numbers_are_near.Goals as goal
use Rattle.sl_model.proofs.Worlds.FifoRuns.{fifo_run}
use Rattle.sl_model.proofs.Cuts.Collected.{in-window, near}

pub returns : goal.returns
returns c s lost es u l i n q p to t = let w = c.nets_are_wired.ensures s.net n in near s lost (world s lost es) u l i w (fifo_run s lost es) (in-window s lost es w) q p to t
