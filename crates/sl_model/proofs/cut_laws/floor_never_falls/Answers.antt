use Rattle.std.proofs.Common.{◌≤◌, sym, subst}
use Rattle.sl_model.specs.Knowledge.{floor}
use Rattle.sl_model.specs.World.{start, world}
use Rattle.sl_model.proofs.cut_laws.floor_never_falls.Goals as goal
use Rattle.sl_model.proofs.Worlds.Turns.{run-append}
use Rattle.sl_model.proofs.Worlds.FifoRuns.{fifo_run}
use Rattle.sl_model.proofs.Cuts.Bounds.{floor-run}

pub returns : goal.returns
returns c s lost es fs n = subst (λ v. floor s.net (world s lost es) ≤ floor s.net v) (sym (run-append s lost (start s.net) es fs)) (floor-run s lost (world s lost es) fs (c.nets_are_wired.ensures s.net n) (fifo_run s lost es))
