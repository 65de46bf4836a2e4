use Rattle.std.proofs.Common.{◌-◌}
use Rattle.sl_route.proofs.search.distances.Given as goal
use Rattle.sl_route.proofs.Finding.{IsSearched}

abbrev pub invariant-loop-hops : goal.invariant-loop-hops
invariant-loop-hops l = IsSearched l.table l.device (l.hops - 1) l.far.items l.last.items
