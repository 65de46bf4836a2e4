use Rattle.sl_route.proofs.Shortest.{hops-least}
use Rattle.sl_route.proofs.laws.hops_are_least.Goals as goal

pub returns : goal.returns
returns c = hops-least
