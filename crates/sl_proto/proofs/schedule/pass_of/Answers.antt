use Rattle.sl_model.specs.Schedule.{link_entries, pass_actions}
use Rattle.sl_layout.specs.Net.{actor_of}
use Rattle.sl_parts.specs.Parts.{below}
use Rattle.std.specs.Prelude.{flat_map}
use Rattle.std.proofs.Common.{◌≡◌, arith, ◌++◌, ap, ◌∙◌, length}
use Rattle.std.proofs.lemmas.Grind.{common_steps}
use Rattle.sl_proto.proofs.Choices.{actors-next}
use Rattle.sl_proto.proofs.schedule.pass_of.Goals as goal

pub loop-actor-preserved : goal.loop-actor-preserved
loop-actor-preserved c = rw (actors-next c.args.net.now (λ a actor. link_entries c.args.net.now a ++ pass_actions c.args.net.now c.args.settling a actor) c.loop-actor.actor) (rw c.acts_in_pass-acts.ensures (grind (arith, common_steps)))

pub returns : goal.returns
returns c =
    let net = c.args.net.now in
    let all : c.loop-actor.actor ≡ length c.actors.result.now = omega (arith, c.loop-actor.auto.actor-end, c.loop-actor-test.false) in
    c.loop-actor.invariant ∙ ap (λ n. flat_map (λ a. link_entries net a ++ pass_actions net c.args.settling a (actor_of net a)) (below n)) (all ∙ ap length c.actors.ensures.now)
