use Rattle.sl_sleep.proofs.AwakeLemmas.{all_told}
use Rattle.sl_sleep.proofs.laws.no_run_sleeps_for_good.Goals as goal

pub returns : goal.returns
returns c n acts some may rest = all_told n acts some may rest
