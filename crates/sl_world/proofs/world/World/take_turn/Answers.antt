use Rattle.std.proofs.Common.{ap, arith, length, map, refl}
use Rattle.std.proofs.lemmas.List.{length-map}
use Rattle.sl_world.specs.World.{scene}
use Rattle.sl_world.proofs.TurnLemmas.{some_at, idle_on}
use Rattle.sl_world.proofs.RunLemmas.{was_idle, was_done, refused}
use Rattle.sl_world.proofs.world.World.take_turn.Goals as goal

pub returns-then-is_empty : goal.returns-then-is_empty
returns-then-is_empty g c =
    let w = c.args.self.now in
    let here = some_at (map g.A.Machine.state w.machines.items) c.args.actor (omega (arith, length-map w.machines.items g.A.Machine.state, length-map w.machines.items (λ a. (g.A.Machine.counts a).ins), ap length w.machines_fit.ins_are, c.requires.actor)) in
    let none = idle_on g.A.Machine.rules (scene w) c.args.actor c.args.choice c.args.link here.0 c.requires.link c.requires.below here.1 (c.is_empty.ensures.0 c.if-is_empty.true) in
    record { turn = was_idle g.A.Machine.rules c.args.actor c.args.choice (scene w) (scene w) none refl; empty = λ _. refl }

pub returns : goal.returns
returns g c =
    record {
      turn = was_done g.A.Machine.rules c.args.actor c.args.choice (scene c.args.self.now) (scene c.take_from.new.self) c.in_ok-take_from.ensures.did;
      empty = λ h. let some = c.is_empty.ensures.1 h in absurd (cc);
    }

pub returns-in_err-take_from : goal.returns-in_err-take_from
returns-in_err-take_from g c =
    record {
      turn = refused g.A.Machine.rules c.args.actor c.args.choice c.from_residual.result (scene c.args.self.now) (scene c.take_from.new.self) c.from_residual.ensures.0 c.in_err-take_from.ensures.err;
      empty = λ h. let some = c.is_empty.ensures.1 h in absurd (cc);
    }
