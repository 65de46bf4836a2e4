-- The world of nodes that keep values, from its first turn on.
--     first_scene_of i losses    where nothing has happened
--     IsValueRun i v             the scene v is what the turns of its book make of that scene
use Rattle.std.specs.Prelude.{◌≡◌, List, Option}
use Rattle.sl_loss.specs.Loss.{Loss}
use Rattle.sl_layout.specs.Wiring.{plan_of}
use Rattle.sl_net.specs.Input.{Input}
use Rattle.sl_wire.specs.declared.message.Msg.{Msg}
use Rattle.sl_model.specs.Losses.{losses}
use Rattle.sl_world.specs.Scene.{Scene, first_scene, after_all, schedule_of}
use Rattle.sl_proto.specs.Standing.{AreNewLosses}
use Rattle.sl_value.specs.Nodes.{ValueNodeState, value_node_rules, first_values}

abbrev pub first_scene_of : Input → List (Option Loss) → Scene ValueNodeState Msg
first_scene_of i ls = first_scene (plan_of i.net) (first_values i) ls

pub record IsValueRun (i : Input) (v : Scene ValueNodeState Msg) : Type 0 where
  pub losses_are : List (Option Loss)
  pub new : AreNewLosses i.net (losses i) losses_are
  pub reached : after_all value_node_rules (first_scene_of i losses_are) (schedule_of v.book) ≡ v

-- what contracts see of a world of nodes that keep values: its scene, and the input whose nodes they are
pub record ValueRunning : Type 0 where
  pub scene : Scene ValueNodeState Msg
  pub input : Input
