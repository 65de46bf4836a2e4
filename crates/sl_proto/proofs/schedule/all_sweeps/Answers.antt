use Rattle.sl_model.specs.Schedule.{sweep_of}
use Rattle.sl_layout.specs.Net.{actor_of}
use Rattle.sl_parts.specs.Parts.{below}
use Rattle.std.specs.Prelude.{flat_map}
use Rattle.std.proofs.Common.{◌≡◌, arith, ap, ◌∙◌, length}
use Rattle.std.proofs.lemmas.Grind.{common_steps}
use Rattle.sl_proto.proofs.Choices.{actors-next}
use Rattle.sl_proto.proofs.schedule.all_sweeps.Goals as goal

pub loop-actor-preserved : goal.loop-actor-preserved
loop-actor-preserved c = rw (actors-next c.args.net.now (sweep_of c.args.net.now) c.loop-actor.actor) (rw c.sweeps.ensures (grind (arith, common_steps)))

pub returns : goal.returns
returns c =
    let net = c.args.net.now in
    let all : c.loop-actor.actor ≡ length c.actors.result.now = omega (arith, c.loop-actor.auto.actor-end, c.loop-actor-test.false) in
    c.loop-actor.invariant ∙ ap (λ n. flat_map (λ a. sweep_of net a (actor_of net a)) (below n)) (all ∙ ap length c.actors.ensures.now)
