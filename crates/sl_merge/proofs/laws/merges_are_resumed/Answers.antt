use Rattle.sl_merge.proofs.ResumedLemmas.{resumed_is_run}
use Rattle.sl_merge.proofs.laws.merges_are_resumed.Goals as goal

pub returns : goal.returns
returns g c e rests book h are m = resumed_is_run g.A.Machine.rules c.every_schedule.ensures.shape c.every_schedule.ensures.only e h rests are book m
