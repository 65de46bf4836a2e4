use Rattle.sl_ids.proofs.Distances.{distance-wrapped}
use Rattle.sl_ids.proofs.laws.distances_are_differences.Goals as goal

pub returns : goal.returns
returns c = distance-wrapped
