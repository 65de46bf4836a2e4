-- A turn of a node, by what the turn of its machine leaves.
use Rattle.std.proofs.Common.{◌≡◌, ℕ, sym, subst, Option, Some}
use Rattle.sl_machine.specs.Machine.{After}
use Rattle.sl_layout.specs.declared.actor.ActorId.{ActorId}
use Rattle.sl_net.specs.declared.input.Snapshot.{Snapshot}
use Rattle.sl_layout.specs.Net.{actor_of}
use Rattle.sl_wire.specs.declared.message.Msg.{Msg}
use Rattle.sl_wire.specs.Sizes.{sizes_of}
use Rattle.sl_model.specs.declared.message.Step.{Step}
use Rattle.sl_model.specs.History.{World, history}
use Rattle.sl_model.specs.Setup.{Setup}
use Rattle.sl_proto.specs.Nodes.{NodeState}
use Rattle.sl_proto.specs.Meaning.{StandsAs, NodeStands}
use Rattle.sl_proto.specs.Image.{ArePut}
use Rattle.sl_proto.specs.Machines.{MachineSimulates, MachineActSimulates}

pub stands-here : (s : Setup) (table : Snapshot) (w : World) (a : ℕ) (y : ActorId) (state : NodeState) → actor_of s.net a ≡ y → StandsAs s table w a y state → NodeStands s table w a state
stands-here s table w a y state q st = subst (λ y. StandsAs s table w a y state) (sym q) st

pub leaves : (s : Setup) (table : Snapshot) (w v : World) (a : ℕ) (step : Step) (y : ActorId) (after : After NodeState Msg) → actor_of s.net a ≡ y → StandsAs s table v a y after.state
    → ArePut s.net (sizes_of table) (history v) a (history w a) step.puts after.puts → MachineSimulates s (sizes_of table) (NodeStands s table) w v a step after
leaves s table w v a step y after q st puts = record { state = stands-here s table v a y after.state q st; puts = puts }

pub does : (s : Setup) (table : Snapshot) (w v : World) (a : ℕ) (step : Step) (y : ActorId) (after : After NodeState Msg) (acted : Option (After NodeState Msg)) → acted ≡ Some after → actor_of s.net a ≡ y
    → StandsAs s table v a y after.state → ArePut s.net (sizes_of table) (history v) a (history w a) step.puts after.puts → MachineActSimulates s (sizes_of table) (NodeStands s table) w v a step acted
does s table w v a step y after acted e q st puts = record { after = after; is = e; simulates = leaves s table w v a step y after q st puts }
