use Rattle.std.proofs.Common.{◌≡◌, sym, subst}
use Rattle.sl_model.specs.History.{history, first}
use Rattle.sl_model.specs.World.{start, world}
use Rattle.sl_model.proofs.Worlds.Turns.{run-append}
use Rattle.sl_model.proofs.Worlds.FifoRuns.{fifo_run}
use Rattle.sl_model.specs.Rows.{row}
use Rattle.sl_model.proofs.Saved.Windows.{row-collected}
use Rattle.sl_model.proofs.Saved.Settled.{row-later, row-ahead}
use Rattle.sl_model.proofs.row_laws.rows_are_final.Goals as goal

pub returns-clause-later : goal.returns-clause-later
returns-clause-later c s lost es cs u k n m t p q = row-later s lost (world s lost es) s.credits cs u k n m (c.nets_are_wired.ensures s.net t) (fifo_run s lost es) p q

pub returns-clause-collected : goal.returns-clause-collected
returns-clause-collected c s lost es cs u k i t q p = row-collected s lost (world s lost es) s.credits cs u k i (c.nets_are_wired.ensures s.net t) (fifo_run s lost es) q p

pub returns-clause-ahead : goal.returns-clause-ahead
returns-clause-ahead c s lost es fs cs u k n t p q =
    subst (λ v. row s.credits cs k (history v u) ≡ row s.credits cs k (first n (history (world s lost es) u))) (sym (run-append s lost (start s.net) es fs))
    (row-ahead s lost (world s lost es) fs s.credits cs u k n (c.nets_are_wired.ensures s.net t) (fifo_run s lost es) p q)
