use Rattle.std.proofs.Common.{◌≡◌, true, false, arith, rules, subst, ap, ◌∙◌, take_all, get_or}
use Rattle.sl_model.specs.Books.{schedule_of}
use Rattle.sl_world.specs.World.{scene}
use Rattle.sl_check.specs.Driven.{Turned}
use Rattle.sl_check.proofs.Driven.{idle-there, taken-more}
use Rattle.sl_check.proofs.nodes.follow.Goals as goal

pub loop-i-init : goal.loop-i-init
loop-i-init c = record {
  plan = c.requires.plan;
  observer = λ h. h;
  stands = λ x h. h;
  taken = λ x h. ap schedule_of c.requires.empty;
}

pub loop-i-preserved : goal.loop-i-preserved
loop-i-preserved c =
    let so_far = c.loop-i.invariant in
    let step = c.in_ok-take_turn.ensures in
    let did : c.in_ok-take_turn.field-0 ≡ true = search rules in
    record {
      plan = step.plan;
      observer = λ h. step.observer (so_far.observer h);
      stands = λ x h. step.stands x (so_far.stands x h);
      taken = λ x h. taken-more (scene c.loop-i.world) (scene c.take_turn.new.world) c.args.schedule.now c.loop-i.i (0, 0) (omega arith) (so_far.taken x h)
          (subst (λ b. Turned x (scene c.loop-i.world) (get_or c.args.schedule.now c.loop-i.i (0, 0)) b (scene c.take_turn.new.world)) did (step.turn x (so_far.stands x h)));
    }

pub returns-then-not-branch-clause-idle : goal.returns-then-not-branch-clause-idle
returns-then-not-branch-clause-idle c x h =
    let so_far = c.loop-i.invariant in
    let did : c.in_ok-take_turn.field-0 ≡ false = search rules in
    idle-there x c.args.net.now (scene c.loop-i.world) c.args.schedule.now c.loop-i.i (0, 0) (omega arith) (so_far.stands x h) (so_far.taken x h)
    (subst (λ b. Turned x (scene c.loop-i.world) (get_or c.args.schedule.now c.loop-i.i (0, 0)) b (scene c.take_turn.new.world)) did (c.in_ok-take_turn.ensures.turn x (so_far.stands x h)))

pub returns-clause-all : goal.returns-clause-all
returns-clause-all c x h = c.loop-i.invariant.taken x h ∙ take_all c.loop-i.i c.args.schedule.now (omega arith)
