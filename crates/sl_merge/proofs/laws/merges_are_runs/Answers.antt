use Rattle.sl_merge.proofs.MergeLemmas.{merge_is_run}
use Rattle.sl_merge.proofs.laws.merges_are_runs.Goals as goal

pub returns : goal.returns
returns g c o book h m = merge_is_run g.A.Machine.rules o book h m
