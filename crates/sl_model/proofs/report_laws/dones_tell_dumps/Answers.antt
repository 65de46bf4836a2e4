use Rattle.sl_model.specs.History.{history}
use Rattle.sl_model.specs.World.{world}
use Rattle.sl_model.proofs.Worlds.FifoRuns.{fifo_run}
use Rattle.sl_model.proofs.Saved.Polls.{dones-are, dones-taken}
use Rattle.sl_model.proofs.report_laws.dones_tell_dumps.Goals as goal

pub returns-clause-put : goal.returns-clause-put
returns-clause-put c s lost es u i r q = dones-are s u i r (history (world s lost es) r.control) q ((fifo_run s lost es).made r.control)

pub returns-clause-taken : goal.returns-clause-taken
returns-clause-taken c s lost es u i r t q = dones-taken s lost (world s lost es) u i r (fifo_run s lost es) t q
