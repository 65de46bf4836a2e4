-- The nodes of a net whose control planes keep values, as data.
--     first_values input         what they stand for before the first turn
--     plain s, plain_scene v     the node and the scene without the values
--     controls_in ss             the control planes among nodes, in order
use Rattle.std.specs.Prelude.{List, map, flat_map, Option, Some, None}
use Rattle.sl_machine.specs.Machine.{Rules}
use Rattle.sl_net.specs.Input.{Input}
use Rattle.sl_wire.specs.declared.message.Msg.{Msg}
use Rattle.sl_model.specs.Words.{listed}
use Rattle.sl_world.specs.Scene.{Scene}
use Rattle.sl_proto.specs.declared.node.Node.{Node}
use Rattle.sl_proto.specs.Built.{first_states_by}
use Rattle.sl_proto.specs.Nodes.{NodeOf, NodeState, ObserverNode, ControlNode, UnitNode, HostNode, node_rules_by, node_state_by}
use Rattle.sl_value.specs.Valued.{ValueState, ValueView, value_rules, first_value}

abbrev pub ValueNodeState : Type 0
ValueNodeState = NodeOf ValueState

abbrev pub value_node_rules : Rules ValueNodeState Msg
value_node_rules = node_rules_by value_rules

abbrev pub value_node_state : Node ValueView → ValueNodeState
value_node_state = node_state_by (λ c. c.state)

abbrev pub first_values : Input → List ValueNodeState
first_values = first_states_by first_value

-- Without the values.

abbrev pub plain : ValueNodeState → NodeState
plain (ObserverNode s) = ObserverNode s
plain (ControlNode s) = ControlNode s.control
plain (UnitNode s) = UnitNode s
plain (HostNode s) = HostNode s

abbrev pub plain_scene : Scene ValueNodeState Msg → Scene NodeState Msg
plain_scene v = record { plan = v.plan; states = map plain v.states; lines = v.lines; book = v.book }

-- Control planes.

abbrev pub control_in : ValueNodeState → Option ValueState
control_in (ControlNode s) = Some s
control_in _ = None

abbrev pub controls_in : List ValueNodeState → List ValueState
controls_in ss = flat_map (λ s. listed (control_in s)) ss
