use Rattle.sl_model.specs.World.{world}
use Rattle.sl_model.proofs.Worlds.FifoRuns.{fifo_run, next-view}
use Rattle.sl_model.proofs.Cuts.Collected.{in-window}
use Rattle.sl_model.proofs.Saved.Windows.{next-takeable}
use Rattle.sl_model.proofs.row_laws.stamps_are_in_window.Goals as goal

pub returns : goal.returns
returns c s lost es e i step j t q n m = let z = c.nets_are_wired.ensures s.net t in
    next-takeable s lost (world s lost es) e.0 i step j z (fifo_run s lost es) (in-window s lost es z) q (next-view s lost (world s lost es) e step n) m
