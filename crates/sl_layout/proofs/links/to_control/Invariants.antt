use Rattle.std.proofs.Common.{◌≡◌, ◌∷◌, [], take}
use Rattle.std.specs.Prelude.{flat_map}
use Rattle.sl_layout.specs.declared.actor.ActorId.TheVariants.{Observer}
use Rattle.sl_layout.specs.declared.actor.Sort.TheVariants.{Begin, Notice, Dump}
use Rattle.sl_layout.specs.Net.{ingress, egress}
use Rattle.sl_layout.proofs.links.to_control.Given as goal

abbrev pub invariant-loop-port : goal.invariant-loop-port
invariant-loop-port l = l.all.items ≡ (Observer, Begin) ∷ flat_map (λ u. (u, Notice) ∷ (u, Dump) ∷ []) (flat_map (λ p. ingress l.device p ∷ egress l.device p ∷ []) (take l.port-index l.port-items))
