use Rattle.sl_model.specs.World.{world}
use Rattle.sl_model.proofs.cut_laws.channel_values_are_late_data.Goals as goal
use Rattle.sl_model.proofs.Worlds.FifoRuns.{fifo_run}
use Rattle.sl_model.proofs.Cuts.Prefixes.{value-is-late}

pub returns : goal.returns
returns c s lost es k l n d = value-is-late s lost (world s lost es) k l (c.nets_are_wired.ensures s.net n) (fifo_run s lost es) d
