-- Trusted text for nodes, in part.
-- The nodes of a net: machines of one type, of which each is the observer, a control plane, a unit or a host.
--     node_take, node_act     a turn of a node is its machine's turn
--     NodeOf S, .._by         where control planes are of any type, and stand for an S
use Rattle.std.specs.Prelude.{ℕ, ◌+◌, nat_lt, if◌then◌else◌, Option, None, option_map}
use Rattle.sl_machine.specs.Machine.{After, Rules, Counts}
use Rattle.sl_wire.specs.declared.message.Msg.{Msg}
use Rattle.sl_observe.specs.Observer.{ObserverState, observer_rules, observer_counts}
use Rattle.sl_control.specs.Control.{ControlState, ControlView, control_rules}
use Rattle.sl_unit.specs.Step.{UnitState, unit_rules}
use Rattle.sl_unit.specs.Units.{unit_state, unit_counts, unit_ready}
use Rattle.sl_host.specs.Host.{HostState, host_rules, host_counts}
use Rattle.sl_proto.specs.declared.node.Node.{Node}
use Rattle.sl_proto.specs.declared.node.Node.TheVariants.{Observer, Control, Unit as OfUnit, Host}

-- by what a control plane stands for
pub data NodeOf (S : Type 0) : Type 0 where
  ObserverNode : ObserverState → NodeOf S
  ControlNode : S → NodeOf S
  UnitNode : UnitState → NodeOf S
  HostNode : HostState → NodeOf S

abbrev pub NodeState : Type 0
NodeState = NodeOf ControlState

-- the same turn, of a machine that is one of several
abbrev pub as_node : {S T M : Type 0} → (S → T) → After S M → After T M
as_node wrap a = record { state = wrap a.state; puts = a.puts }

abbrev pub node_take : {S : Type 0} → Rules S Msg → NodeOf S → ℕ → Msg → After (NodeOf S) Msg
node_take rules (ObserverNode s) link m = as_node ObserverNode (observer_rules.take s link m)
node_take rules (ControlNode s) link m = as_node ControlNode (rules.take s link m)
node_take rules (UnitNode s) link m = as_node UnitNode (unit_rules.take s link m)
node_take rules (HostNode s) link m = as_node HostNode (host_rules.take s link m)

-- a choice that the machine doesn't have is no action of it
abbrev pub if_choice : {A : Type 0} → Counts → ℕ → Option A → Option A
if_choice n choice acted = if nat_lt choice (n.ins + n.actions) then acted else None

abbrev pub node_act : {S : Type 0} → Rules S Msg → NodeOf S → ℕ → Option (After (NodeOf S) Msg)
node_act rules (ObserverNode s) action = if_choice (observer_counts s) action (option_map (as_node ObserverNode) (observer_rules.act s action))
node_act rules (ControlNode s) action = option_map (as_node ControlNode) (rules.act s action)
node_act rules (UnitNode s) action = option_map (as_node UnitNode) (unit_rules.act s action)
node_act rules (HostNode s) action = if_choice host_counts action (option_map (as_node HostNode) (host_rules.act s action))

abbrev pub node_rules_by : {S : Type 0} → Rules S Msg → Rules (NodeOf S) Msg
node_rules_by rules = record { take = node_take rules; act = node_act rules }

abbrev pub node_rules : Rules NodeState Msg
node_rules = node_rules_by control_rules

-- what contracts see of a node
abbrev pub NodeView : Type 0
NodeView = Node ControlView

-- what it stands for
abbrev pub node_state_by : {C S : Type 0} → (C → S) → Node C → NodeOf S
node_state_by state (Observer observer) = ObserverNode observer.state
node_state_by state (Control control) = ControlNode (state control)
node_state_by state (OfUnit unit) = UnitNode (unit_state unit)
node_state_by state (Host host) = HostNode host.state

abbrev pub node_state : NodeView → NodeState
node_state = node_state_by (λ c. c.state)

abbrev pub node_counts_by : {C : Type 0} → (C → Counts) → Node C → Counts
node_counts_by counts (Observer observer) = observer_counts observer.state
node_counts_by counts (Control control) = counts control
node_counts_by counts (OfUnit unit) = unit_counts unit
node_counts_by counts (Host host) = host_counts

-- the choice that it is ready for
abbrev pub node_ready_by : {C : Type 0} → (C → Option ℕ) → Node C → Option ℕ
node_ready_by ready (Observer observer) = observer.ready
node_ready_by ready (Control control) = ready control
node_ready_by ready (OfUnit unit) = unit_ready unit
node_ready_by ready (Host host) = host.ready
