use Rattle.std.proofs.Common.{ap, subst, ◌∙◌}
use Rattle.std.proofs.lemmas.Result.{on_ok_weaker}
use Rattle.sl_world.specs.Scene.{after_all, IsFront}
use Rattle.sl_world.specs.World.{scene}
use Rattle.sl_proto.specs.Nodes.{node_rules}
use Rattle.sl_value.specs.Nodes.{plain_scene}
use Rattle.sl_value.specs.Run.{ValueRunning}
use Rattle.sl_value.proofs.Runs.{run-front, plain-all, plain-front}
use Rattle.sl_value.proofs.world.ValueWorldTaker.run.Goals as goal

pub invariant_of-self : goal.invariant_of-self
invariant_of-self c = run-front c.every_schedule.ensures.legal c.every_schedule.ensures.book c.every_schedule.ensures.only c.self.inside.input.now (scene c.self.inside.world) (scene c.run.new.self)
    c.args.schedule.now c.run.ensures.front c.self.invariant

pub returns-clause-ok : goal.returns-clause-ok
returns-clause-ok c = on_ok_weaker c.run.result
    (λ h. plain-all (scene c.self.inside.world) (scene c.run.new.self) c.args.schedule.now h ∙ ap (λ (r : ValueRunning). after_all node_rules (plain_scene r.scene) c.args.schedule.now) c.self.view_is) c.run.ensures.ok

pub returns-clause-front : goal.returns-clause-front
returns-clause-front c = subst (λ (r : ValueRunning). IsFront node_rules (plain_scene r.scene) c.args.schedule.now (plain_scene (scene c.run.new.self))) c.self.view_is
    (plain-front (scene c.self.inside.world) (scene c.run.new.self) c.args.schedule.now c.run.ensures.front)
