use Rattle.sl_model.specs.World.{world}
use Rattle.sl_model.proofs.Worlds.FifoRuns.{fifo_run, next-view}
use Rattle.sl_model.proofs.Saved.Polls.{all-asked, next-asked}
use Rattle.sl_model.proofs.report_laws.dumps_answer_polls.Goals as goal

pub returns-clause-polls : goal.returns-clause-polls
returns-clause-polls c s lost es a d t q = all-asked s lost (world s lost es) a d (c.nets_are_wired.ensures s.net t) (fifo_run s lost es) q

pub returns-clause-next : goal.returns-clause-next
returns-clause-next c s lost es e step t q = next-asked s lost (world s lost es) e.0 step (c.nets_are_wired.ensures s.net t) (fifo_run s lost es) (next-view s lost (world s lost es) e step q)
