use Rattle.std.proofs.Common.{ap, sym, ◌∙◌, length}
use Rattle.sl_layout.specs.declared.actor.ActorId.{ActorId}
use Rattle.sl_layout.specs.declared.actor.ActorId.TheVariants.{Unit as OfUnit}
use Rattle.sl_layout.specs.Net.{units, actor_of}
use Rattle.std.proofs.lemmas.List.{length-map}
use Rattle.sl_layout.proofs.units.Units.ids.Goals as goal

pub returns-clause-len : goal.returns-clause-len
returns-clause-len c =
    let net = c.self.inside.wires in
    ap length c.as_slice.ensures.value ∙ sym (length-map {B = ActorId} c.self.inside.ids.items OfUnit) ∙ ap length c.self.invariant.ids_are
    ∙ length-map (units net) (actor_of net) ∙ ap (λ n. length (units n)) c.self.view_is
