use Rattle.sl_ids.proofs.Distances.{wrapped-distance}
use Rattle.sl_ids.proofs.laws.distances_lead_back.Goals as goal

pub returns : goal.returns
returns c = wrapped-distance
