use Rattle.sl_ids.proofs.Distances.{unwrapped-near}
use Rattle.sl_ids.proofs.laws.numbers_near_are_unwrapped.Goals as goal

pub returns : goal.returns
returns c = unwrapped-near
