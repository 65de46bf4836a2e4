use Rattle.std.proofs.lemmas.Grind.{common_steps}
use Rattle.std.proofs.Common.{ℕ, sym, ◌∙◌, arith}
use Rattle.sl_model.specs.Losses.{losses}
use Rattle.sl_model.specs.Setup.{setup_of}
use Rattle.sl_cut.proofs.LegalFront.{reached_more, legal_more, none_after, idle_stays, idle_at}
use Rattle.sl_cut.proofs.schedule.follow_legal.Goals as goal

pub loop-i-preserved : goal.loop-i-preserved
loop-i-preserved c =
    let z : ℕ × ℕ = (0, 0) in let turns = c.worlds_take_turns.ensures in let s = setup_of c.args.input.now in let lost = losses c.args.input.now in let es = c.args.schedule.now in
    record {
      reached = reached_more turns s lost es c.loop-i.i z c.loop-i.world c.take_turn.new.world c.loop-i-test.true c.loop-i.invariant.reached c.in_ok-take_turn.ensures.after;
      actors = c.in_ok-take_turn.ensures.actors;
      legal = legal_more turns s lost es c.loop-i.i z c.loop-i.world c.loop-i-test.true c.loop-i.invariant.reached c.loop-i.invariant.legal (sym c.in_ok-take_turn.ensures.did ∙ c.if-not-branch.false);
    }

pub returns-clause-idle : goal.returns-clause-idle
returns-clause-idle c = λ e h. none_after c.args.schedule.now e h

pub returns-clause-legal : goal.returns-clause-legal
returns-clause-legal c = grind (arith, common_steps)

pub returns-clause-world : goal.returns-clause-world
returns-clause-world c = grind (arith, common_steps)

pub returns-clause-actors : goal.returns-clause-actors
returns-clause-actors c = grind (arith, common_steps)

pub returns-clause-within : goal.returns-clause-within
returns-clause-within c = grind (arith, common_steps)

pub returns-then-not-branch : goal.returns-then-not-branch
returns-then-not-branch c =
    let z : ℕ × ℕ = (0, 0) in let s = setup_of c.args.input.now in let lost = losses c.args.input.now in
    let idle = sym c.in_ok-take_turn.ensures.did ∙ c.if-not-branch.true in
    let same = idle_stays s lost c.loop-i.world c.take_turn.new.world _ idle c.in_ok-take_turn.ensures.after in
    record {
      legal = c.loop-i.invariant.legal;
      world = same ∙ c.loop-i.invariant.reached;
      actors = c.in_ok-take_turn.ensures.actors;
      within = omega arith;
      idle = idle_at s lost c.args.schedule.now c.loop-i.i z c.loop-i.world c.take_turn.new.world idle same;
    }

pub loop-i-init : goal.loop-i-init
loop-i-init c = grind (arith, common_steps)
