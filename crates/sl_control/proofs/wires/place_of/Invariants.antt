use Rattle.std.proofs.Common.{◌≡◌, ◌+◌, drop}
use Rattle.sl_layout.specs.declared.actor.ActorId.TheVariants.{Control}
use Rattle.sl_layout.specs.Net.{place_of}
use Rattle.sl_control.proofs.wires.place_of.Given as goal

abbrev pub invariant-loop-actor : goal.invariant-loop-actor
invariant-loop-actor l = record { place : l.place ≡ l.actor-index; value : l.actor-index + place_of (Control l.device) (drop l.actor-index l.actors) ≡ place_of (Control l.device) l.actors }
