use Rattle.sl_model.specs.World.{world}
use Rattle.sl_model.proofs.Worlds.FifoRuns.{fifo_run}
use Rattle.sl_model.proofs.Cuts.Known.{cause-row, value-is}
use Rattle.sl_model.proofs.row_laws.rows_are_of_the_world.Goals as goal

pub returns-clause-causes : goal.returns-clause-causes
returns-clause-causes c = cause-row

pub returns-clause-values : goal.returns-clause-values
returns-clause-values c s lost es k u n some e = value-is s lost (world s lost es) k u (c.nets_are_wired.ensures s.net n) (fifo_run s lost es) some e
