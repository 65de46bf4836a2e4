use Rattle.std.proofs.Common.{◌≡◌, ◌++◌, ◌∷◌, length, map}
use Rattle.std.specs.Prelude.{flat_map}
use Rattle.sl_layout.specs.declared.actor.ActorId.TheVariants.{Observer, Control, Host}
use Rattle.sl_parts.specs.Parts.{below}
use Rattle.sl_layout.specs.Net.{units_of}
use Rattle.sl_layout.proofs.roster.list_actors.Given as goal

abbrev pub invariant-loop-device : goal.invariant-loop-device
invariant-loop-device l = l.actors.items ≡ Observer ∷ flat_map (λ d. Control d ∷ units_of l.layout d) (below l.device)

abbrev pub invariant-loop-host : goal.invariant-loop-host
invariant-loop-host l = l.actors.items ≡ Observer ∷ (flat_map (λ d. Control d ∷ units_of l.layout d) (below (length l.layout.devices)) ++ map Host (below l.host))
