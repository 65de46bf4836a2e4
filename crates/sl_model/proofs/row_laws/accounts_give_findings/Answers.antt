use Rattle.std.proofs.Common.{arith}
use Rattle.sl_model.specs.Findings.{finding}
use Rattle.sl_model.specs.Knowledge.{observer, issued}
use Rattle.sl_model.specs.Accounts.{accounts, finding_by}
use Rattle.sl_model.specs.World.{world}
use Rattle.sl_model.proofs.Worlds.FifoRuns.{fifo_run}
use Rattle.sl_model.proofs.Cuts.Known.{finding-is, map-from}
use Rattle.sl_model.proofs.row_laws.accounts_give_findings.Goals as goal

pub returns-clause-collected : goal.returns-clause-collected
returns-clause-collected c s lost es k n some one p =
    finding-is s lost (world s lost es) k (c.nets_are_wired.ensures s.net n) (fifo_run s lost es) some one (λ q. c.collected_verdicts_are_known.ensures s lost es k n p)

pub returns-clause-finished : goal.returns-clause-finished
returns-clause-finished c s lost es k n some f one =
    finding-is s lost (world s lost es) k (c.nets_are_wired.ensures s.net n) (fifo_run s lost es) some one (λ q. c.finished_verdicts_are_known.ensures s lost es k n f q)

pub returns-clause-list : goal.returns-clause-list
returns-clause-list c s lost es n some f = map-from (finding_by (issued s.net (observer (world s lost es))) (accounts s.credits s.net (world s lost es))) (finding s.credits s.net lost (world s lost es)) 1 s.count (omega arith)
    (λ k one. finding-is s lost (world s lost es) k (c.nets_are_wired.ensures s.net n) (fifo_run s lost es) some one (λ q. c.finished_verdicts_are_known.ensures s lost es k n f q))
