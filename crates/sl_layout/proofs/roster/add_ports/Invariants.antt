use Rattle.std.proofs.Common.{◌≡◌, ◌++◌, ◌∷◌, [], take}
use Rattle.std.specs.Prelude.{flat_map}
use Rattle.sl_layout.specs.Net.{ingress, egress}
use Rattle.sl_layout.proofs.roster.add_ports.Given as goal

abbrev pub invariant-loop-port : goal.invariant-loop-port
invariant-loop-port l = l.actors.items ≡ l.fn.actors.items ++ flat_map (λ p. ingress l.device p ∷ egress l.device p ∷ []) (take l.port-index l.port-items)
