use Rattle.std.proofs.Common.{◌≡◌, List, length, map, ap, ◌∙◌}
use Rattle.sl_machine.specs.Plan.{Plan}
use Rattle.sl_parts.specs.Parts.{below}
use Rattle.sl_layout.specs.Wiring.{plan_of}
use Rattle.sl_net.specs.Input.{Input}
use Rattle.sl_world.specs.Scene.{first_scene}
use Rattle.sl_proto.specs.Built.{first_states}
use Rattle.sl_proto.specs.Nodes.{NodeState}
use Rattle.sl_value.specs.Nodes.{value_node_state, plain, plain_scene}
use Rattle.sl_value.proofs.Plain.{first-states-plain}
use Rattle.sl_value.proofs.world.ValueWorld.new.Goals as goal

pub returns-clause-first : goal.returns-clause-first
returns-clause-first c =
    let i = c.args.input.now in
    let plan : c.wiring.result.now ≡ plan_of i.net = c.wiring.ensures.now ∙ ap (λ (j : Input). plan_of j.net) c.input.view_is in
    let states : map plain (map value_node_state c.in_ok-nodes.nodes.items) ≡ first_states i = ap (map plain) c.in_ok-nodes.ensures.states ∙ first-states-plain i (below (length i.net.actors)) in
    record {
      losses_are = c.in_ok-losses.losses.items;
      new = record { each = c.in_ok-losses.ensures.each; go = c.in_ok-losses.ensures.go };
      is = ap plain_scene c.in_ok-world.ensures ∙ ap (λ (p : Plan). first_scene p (map plain (map value_node_state c.in_ok-nodes.nodes.items)) c.in_ok-losses.losses.items) plan
          ∙ ap (λ (ss : List NodeState). first_scene (plan_of i.net) ss c.in_ok-losses.losses.items) states;
    }
