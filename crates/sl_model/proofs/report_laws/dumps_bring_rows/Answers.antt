use Rattle.sl_model.specs.World.{world}
use Rattle.sl_model.proofs.Worlds.FifoRuns.{fifo_run, next-view}
use Rattle.sl_model.proofs.Cuts.Collected.{in-window}
use Rattle.sl_model.proofs.Saved.Windows.{next-dump}
use Rattle.sl_model.proofs.report_laws.dumps_bring_rows.Goals as goal

pub returns : goal.returns
returns c s lost es e n step t q m = let z = c.nets_are_wired.ensures s.net t in next-dump s lost (world s lost es) e.0 n step z (fifo_run s lost es) (in-window s lost es z) (next-view s lost (world s lost es) e step q) m
