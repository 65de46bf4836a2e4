-- The nodes of an input: one per actor of its net, in the order of the actors.
--     first_states input      what they stand for before the first turn; first_states_by first input where control planes stand for this
use Rattle.std.specs.Prelude.{◌≡◌, ℕ, List, length, map, Option, None}
use Rattle.std.specs.List.{All}
use Rattle.sl_machine.specs.Machine.{Counts}
use Rattle.sl_layout.specs.declared.actor.Side.{Side}
use Rattle.sl_layout.specs.declared.actor.Side.TheVariants.{Ingress, Egress}
use Rattle.sl_layout.specs.declared.actor.ActorId.{ActorId}
use Rattle.sl_layout.specs.declared.actor.ActorId.TheVariants.{Observer, Control, Unit as OfUnit, Host as OfHost}
use Rattle.sl_parts.specs.Parts.{below}
use Rattle.sl_layout.specs.Net.{Net, actor_of, links_into, links_from}
use Rattle.sl_net.specs.Input.{Input}
use Rattle.sl_layout.specs.Wiring.{actions_of}
use Rattle.sl_flow.specs.Flow.{HasAddresses}
use Rattle.sl_observe.specs.Observer.{first_state}
use Rattle.sl_control.specs.Wires.{first_control}
use Rattle.sl_unit.specs.Step.{UnitState}
use Rattle.sl_unit.specs.Made.{IsRanged, ingress_state, egress_state}
use Rattle.sl_host.specs.Host.{messages_of}
use Rattle.sl_wire.specs.Sizes.{Sizes, sizes_of}
use Rattle.sl_proto.specs.declared.node.Node.{Node}
use Rattle.sl_proto.specs.Nodes.{NodeOf, NodeState, ObserverNode, ControlNode, UnitNode, HostNode, node_state_by, node_counts_by, node_ready_by}

-- a snapshot table within its ranges, and flows whose hosts have addresses, as each accepted input has
pub record IsBuildable (input : Input) : Type 0 where
  pub snapshot : IsRanged input.snapshot
  pub flows : All HasAddresses input.flows

abbrev pub first_unit : Input → ℕ → Side → UnitState
first_unit input a Ingress = ingress_state input.net a input.snapshot
first_unit input a Egress = egress_state input.net a input.snapshot

-- the node of an actor that has the number a, by what control planes stand for
abbrev pub first_node : {S : Type 0} → (Net → ℕ → Sizes → S) → Input → ℕ → ActorId → NodeOf S
first_node first input a Observer = ObserverNode (first_state input.net input.snapshot)
first_node first input a (Control d) = ControlNode (first input.net a (sizes_of input.snapshot))
first_node first input a (OfUnit u) = UnitNode (first_unit input a u.side)
first_node first input a (OfHost h) = HostNode (record { messages = messages_of input h; sent = 0; delivered = 0 })

abbrev pub first_at : {S : Type 0} → (Net → ℕ → Sizes → S) → Input → ℕ → NodeOf S
first_at first input a = first_node first input a (actor_of input.net a)

abbrev pub first_states_by : {S : Type 0} → (Net → ℕ → Sizes → S) → Input → List (NodeOf S)
first_states_by first input = map (first_at first input) (below (length input.net.actors))

abbrev pub first_states : Input → List NodeState
first_states = first_states_by first_control

-- the links and actions of an actor in the net
abbrev pub counts_at : Net → ℕ → Counts
counts_at net a = record { ins = length (links_into net a); outs = length (links_from net a); actions = actions_of (actor_of net a) }

-- a node that stands for this state, has these links and actions, and is ready for no turn
pub record IsFirstNode {C S : Type 0} (state_of : C → S) (counts_of : C → Counts) (ready_for : C → Option ℕ) (first : NodeOf S) (has : Counts) (node : Node C) : Type 0 where
  pub state : node_state_by state_of node ≡ first
  pub counts : node_counts_by counts_of node ≡ has
  pub ready : node_ready_by ready_for node ≡ None
