use Rattle.std.proofs.lemmas.Grind.{common_steps}
use Rattle.sl_model.specs.History.{World, steps_in}
use Rattle.sl_model.specs.Losses.{losses}
use Rattle.sl_model.specs.Setup.{setup_of}
use Rattle.std.proofs.Common.{arith, length, length-take, rules, subst, sym, take, ℕ, ◌≤◌}
use Rattle.sl_cut.proofs.LegalFront.{reached_more}
use Rattle.sl_cut.proofs.schedule.follow.Goals as goal

pub loop-actor-preserved : goal.loop-actor-preserved
loop-actor-preserved c = let z : ℕ × ℕ = (0, 0) in record {
  reached = reached_more c.worlds_take_turns.ensures (setup_of c.args.input.now) (losses c.args.input.now) c.args.schedule.now c.loop-actor.actor-index z c.loop-actor.world c.take_turn.new.world
      c.loop-actor-test.true c.loop-actor.invariant.reached c.in_ok-take_turn.ensures.after;
  actors = search rules;
}

pub returns-clause-size : goal.returns-clause-size
returns-clause-size c =
    let es = take c.loop-actor.actor-index c.args.schedule.now in
    let k : steps_in c.loop-actor.world ≤ length es = subst (λ (w : World). steps_in w ≤ length es) (sym c.loop-actor.invariant.reached)
    (c.worlds_take_turns.ensures.all_few (setup_of c.args.input.now) (losses c.args.input.now) es) in
    omega (arith, k, length-take c.loop-actor.actor-index c.args.schedule.now)

pub returns-clause-world : goal.returns-clause-world
returns-clause-world c = grind (arith, common_steps)

pub returns-clause-actors : goal.returns-clause-actors
returns-clause-actors c = grind (arith, common_steps)

pub loop-actor-init : goal.loop-actor-init
loop-actor-init c = grind (arith, common_steps)
