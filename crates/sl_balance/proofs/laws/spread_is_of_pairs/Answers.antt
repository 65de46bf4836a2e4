use Rattle.sl_balance.proofs.Sums.{from_sums}
use Rattle.sl_balance.proofs.laws.spread_is_of_pairs.Goals as goal

pub returns : goal.returns
returns c = from_sums
