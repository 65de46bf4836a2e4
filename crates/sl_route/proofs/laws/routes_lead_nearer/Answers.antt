use Rattle.sl_route.proofs.Onward.{next-nearer, hops-few}
use Rattle.sl_route.proofs.laws.routes_lead_nearer.Goals as goal

pub returns-clause-nearer : goal.returns-clause-nearer
returns-clause-nearer c = next-nearer

pub returns-clause-few : goal.returns-clause-few
returns-clause-few c = hops-few
