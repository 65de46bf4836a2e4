use Rattle.std.proofs.Common.{◌<◌, ℕ, List, ap, subst, sym, ◌∙◌, length}
use Rattle.sl_layout.specs.declared.actor.ActorId.{ActorId}
use Rattle.sl_layout.specs.declared.actor.ActorId.TheVariants.{Control}
use Rattle.sl_layout.specs.Net.{place_of, actor_of}
use Rattle.sl_control.proofs.Joining.{control-low, control-is}
use Rattle.sl_control.proofs.wires.control_of.Goals as goal

pub returns-clause-within : goal.returns-clause-within
returns-clause-within c =
    let e = c.place_of.ensures.place ∙ ap (λ (xs : List ActorId). place_of (Control c.args.device) xs) c.actors.ensures.now in
    subst (λ (n : ℕ). n < length c.args.net.now.actors) (sym e) (control-low c.args.net.now c.args.device (c.nets_are_wired.ensures c.args.net.now (record { made = c.parts-parts.ensures.net; right = c.parts-parts.ensures.right })) c.requires)

pub returns-clause-control : goal.returns-clause-control
returns-clause-control c =
    let e = c.place_of.ensures.place ∙ ap (λ (xs : List ActorId). place_of (Control c.args.device) xs) c.actors.ensures.now in
    ap (actor_of c.args.net.now) e ∙ control-is c.args.net.now c.args.device (c.nets_are_wired.ensures c.args.net.now (record { made = c.parts-parts.ensures.net; right = c.parts-parts.ensures.right })) c.requires
