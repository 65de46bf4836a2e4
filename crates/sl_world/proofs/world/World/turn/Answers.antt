use Rattle.std.proofs.Common.{◌∙◌, ap, arith}
use Rattle.sl_world.specs.Scene.{line_at}
use Rattle.sl_world.specs.World.{scene}
use Rattle.sl_world.proofs.RunLemmas.{either_keeps}
use Rattle.sl_world.proofs.world.World.turn.Goals as goal

pub returns-in-Some : goal.returns-in-Some
returns-in-Some g c =
    let was = scene c.args.self.now in
    let e = c.take_turn.ensures.turn in
    let keeps = either_keeps g.A.Machine.rules was (scene c.take_turn.new.self) (c.args.actor, c.args.choice) c.take_turn.result e.after e.err in
    record {
      after = e.after;
      did = e.did;
      idle = e.idle;
      same = e.same;
      empty = λ h. c.take_turn.ensures.empty (ap (λ k. (line_at was.lines k).queue) c.in-Some.ensures.link ∙ h.empty);
      err = e.err;
      plan = keeps.plan;
      book = keeps.book;
    }

pub returns-in-None : goal.returns-in-None
returns-in-None g c =
    let e = c.act_turn.ensures in
    let keeps = either_keeps g.A.Machine.rules (scene c.args.self.now) (scene c.act_turn.new.self) (c.args.actor, c.args.choice) c.act_turn.result e.after e.err in
    record {
      after = e.after;
      did = e.did;
      idle = e.idle;
      same = e.same;
      empty = λ h. absurd (omega (arith, h.linked, c.in-None.ensures.none));
      err = e.err;
      plan = keeps.plan;
      book = keeps.book;
    }
