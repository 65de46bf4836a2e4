use Rattle.sl_balance.proofs.Ways.{both_ways}
use Rattle.sl_balance.proofs.laws.equal_ports_begin_least_walks.Goals as goal

pub returns : goal.returns
returns c = λ parts d h n port at valid is e. both_ways c.hops_are_least.ensures parts h at valid is d n port e
