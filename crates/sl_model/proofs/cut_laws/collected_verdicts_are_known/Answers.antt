use Rattle.sl_model.specs.World.{world}
use Rattle.sl_model.proofs.cut_laws.collected_verdicts_are_known.Goals as goal
use Rattle.sl_model.proofs.Cuts.Bounds.{all-below}
use Rattle.sl_model.proofs.Cuts.Known.{known-verdict-now}

pub returns : goal.returns
returns c s lost es k n p = let t = c.nets_are_wired.ensures s.net n in let b = all-below s lost es t in known-verdict-now s lost (world s lost es) k t b.fifo_run b.below p
