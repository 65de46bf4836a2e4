use Rattle.sl_net.proofs.laws.nets_have_ways.Goals as goal
use Rattle.sl_net.proofs.Sorts.{has-ways}

pub returns : goal.returns
returns c net = has-ways net
