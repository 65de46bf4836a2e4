use Rattle.sl_net.proofs.laws.nets_are_wired.Goals as goal
use Rattle.sl_net.proofs.Wired.{net-wired}

pub returns : goal.returns
returns c net n = net-wired net n
