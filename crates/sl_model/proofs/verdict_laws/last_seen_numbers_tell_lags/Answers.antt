use Rattle.sl_model.specs.World.{world}
use Rattle.sl_model.proofs.Worlds.FifoRuns.{fifo_run}
use Rattle.sl_model.proofs.Cuts.Known.{own-last, lag-seen}
use Rattle.sl_model.proofs.verdict_laws.last_seen_numbers_tell_lags.Goals as goal

pub returns-clause-own : goal.returns-clause-own
returns-clause-own c s lost es u i n q d = own-last s lost (world s lost es) u i (c.nets_are_wired.ensures s.net n) (fifo_run s lost es) q d

pub returns-clause-lags : goal.returns-clause-lags
returns-clause-lags c s lost es u k i n q = lag-seen s lost (world s lost es) u k i (c.nets_are_wired.ensures s.net n) (fifo_run s lost es) q
