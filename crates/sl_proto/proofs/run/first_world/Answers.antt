use Rattle.std.proofs.lemmas.Result.{IfOk-weaker}
use Rattle.sl_world.specs.World.{scene}
use Rattle.sl_proto.proofs.run.first_world.Goals as goal

pub returns-clause-stands : goal.returns-clause-stands
returns-clause-stands c = IfOk-weaker c.build_world.result _ _
    (λ w is. c.first_nodes_stand.ensures (scene w) (record { losses_are = c.in_ok-losses.losses.items; new = record { each = c.in_ok-losses.ensures.each; go = c.in_ok-losses.ensures.go }; is = is }))
    c.build_world.ensures
