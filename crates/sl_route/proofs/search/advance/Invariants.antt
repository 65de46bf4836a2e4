use Rattle.std.proofs.Common.{take, []}
use Rattle.std.specs.List.{list_any}
use Rattle.sl_route.specs.Graph.{Finds, leads}
use Rattle.sl_route.proofs.search.advance.Given as goal

abbrev pub invariant-loop-device : goal.invariant-loop-device
invariant-loop-device l = Finds l.hops (λ d. list_any (λ x. leads l.table x d) (take l.device-index l.last)) l.fn.far.items l.far.items [] l.found.items
