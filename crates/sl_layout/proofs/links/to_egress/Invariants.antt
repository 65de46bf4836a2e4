use Rattle.std.proofs.Common.{◌≡◌, map, take}
use Rattle.sl_layout.specs.declared.actor.Sort.TheVariants.{Crossbar}
use Rattle.sl_layout.specs.Net.{ingress}
use Rattle.sl_layout.proofs.links.to_egress.Given as goal

abbrev pub invariant-loop-other : goal.invariant-loop-other
invariant-loop-other l = l.all.items ≡ map (λ q. (ingress l.port.device q, Crossbar)) (take l.other-index l.other-items)
