use Rattle.std.proofs.Common.{ap, sym, ◌∙◌}
use Rattle.std.proofs.lemmas.Result.{on_ok_weaker}
use Rattle.sl_world.specs.Scene.{after_turn, turn_of}
use Rattle.sl_world.specs.World.{scene}
use Rattle.sl_proto.specs.Nodes.{node_rules}
use Rattle.sl_value.specs.Nodes.{plain_scene}
use Rattle.sl_value.specs.Run.{ValueRunning}
use Rattle.sl_value.proofs.Runs.{run-turn, plain-turned, plain-did, plain-idle}
use Rattle.sl_value.proofs.world.ValueWorldTaker.turn.Goals as goal

pub invariant_of-self : goal.invariant_of-self
invariant_of-self c = run-turn c.every_schedule.ensures.legal c.every_schedule.ensures.book c.every_schedule.ensures.only c.self.inside.input.now (scene c.self.inside.world) (scene c.turn.new.self)
    (c.args.actor, c.args.choice) c.turn.result c.turn.ensures.after c.turn.ensures.err c.self.invariant

pub returns-clause-after : goal.returns-clause-after
returns-clause-after c = on_ok_weaker c.turn.result
    (λ h. plain-turned (scene c.self.inside.world) (scene c.turn.new.self) (c.args.actor, c.args.choice) h ∙ ap (λ (r : ValueRunning). after_turn node_rules (plain_scene r.scene) (c.args.actor, c.args.choice)) c.self.view_is) c.turn.ensures.after

pub returns-clause-did : goal.returns-clause-did
returns-clause-did c = λ h. sym (ap (λ (r : ValueRunning). turn_of node_rules (plain_scene r.scene) c.args.actor c.args.choice) c.self.view_is)
    ∙ plain-did (scene c.self.inside.world) (scene c.turn.new.self) c.args.actor c.args.choice (c.turn.ensures.did h)

pub returns-clause-idle : goal.returns-clause-idle
returns-clause-idle c = λ h. sym (ap (λ (r : ValueRunning). turn_of node_rules (plain_scene r.scene) c.args.actor c.args.choice) c.self.view_is)
    ∙ plain-idle (scene c.self.inside.world) c.args.actor c.args.choice (c.turn.ensures.idle h)
