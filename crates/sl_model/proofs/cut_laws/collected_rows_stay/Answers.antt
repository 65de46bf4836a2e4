use Rattle.std.proofs.Common.{sym, subst}
use Rattle.sl_model.specs.History.{history, first}
use Rattle.sl_model.specs.World.{start, world}
use Rattle.sl_model.specs.Collected.{IsKept}
use Rattle.sl_model.proofs.cut_laws.collected_rows_stay.Goals as goal
use Rattle.sl_model.proofs.Worlds.Turns.{run-append}
use Rattle.sl_model.proofs.Worlds.FifoRuns.{fifo_run}
use Rattle.sl_model.proofs.Cuts.Collected.{kept-ahead}

pub returns : goal.returns
returns c s lost es fs u k n t p q =
    subst (λ v. IsKept s.credits s.net u k (first n (history (world s lost es) u)) (history v u)) (sym (run-append s lost (start s.net) es fs))
    (kept-ahead s lost (world s lost es) fs s.credits u k n (c.nets_are_wired.ensures s.net t) (fifo_run s lost es) p q)
