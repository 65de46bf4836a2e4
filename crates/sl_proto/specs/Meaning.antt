-- Trusted text for nodes, but for IsRunnable.
-- What the nodes of a net stand for: each machine for histories of a world, by the kind of its actor.
--     NodeStands s table w a state    in the world w this is the state of the actor a; table is the snapshot table
--     IsRunnable s table lost         what the laws of nodes ask, as an accepted input has it
use Rattle.std.specs.Prelude.{ℕ}
use Rattle.sl_machine.specs.Plan.{IsSound}
use Rattle.sl_layout.specs.declared.actor.ActorId.{ActorId}
use Rattle.sl_layout.specs.declared.actor.ActorId.TheVariants.{Observer, Control, Unit as OfUnit, Host as OfHost}
use Rattle.sl_net.specs.declared.input.Snapshot.{Snapshot}
use Rattle.sl_layout.specs.Net.{actor_of}
use Rattle.sl_net.specs.Wired.{IsNet}
use Rattle.sl_layout.specs.Wiring.{plan_of}
use Rattle.sl_wire.specs.Sizes.{sizes_of}
use Rattle.sl_model.specs.History.{World, Losses, history}
use Rattle.sl_model.specs.Setup.{Setup}
use Rattle.sl_model.specs.World.{IsLossTable}
use Rattle.sl_simulation.specs.ControlImage.{IsControlOf}
use Rattle.sl_simulation.specs.HostImage.{IsHostOf}
use Rattle.sl_simulation.specs.ObserverImage.{IsObserverOf, IsTableOf}
use Rattle.sl_model.specs.Short.{SendsShort}
use Rattle.sl_simulation.specs.UnitImage.{IsUnitOf}
use Rattle.sl_proto.specs.Nodes.{NodeState, ObserverNode, ControlNode, UnitNode, HostNode}

-- where the actor a is this one
abbrev pub StandsAs : Setup → Snapshot → World → ℕ → ActorId → NodeState → Type 0
StandsAs s table w a Observer (ObserverNode o) = IsObserverOf s.net table w o
StandsAs s table w a (Control d) (ControlNode o) = IsControlOf s.net (sizes_of table) (history w) a o
StandsAs s table w a (OfUnit i) (UnitNode o) = IsUnitOf s.net table a i (history w a) o
StandsAs s table w a (OfHost i) (HostNode o) = IsHostOf s a i w o
StandsAs s table w a _ _ = ⊥

abbrev pub NodeStands : Setup → Snapshot → World → ℕ → NodeState → Type 0
NodeStands s table w a state = StandsAs s table w a (actor_of s.net a) state

-- the wiring is sound, reliable links lose nothing, packets are short, and ids and rings hold a window
pub record IsRunnable (s : Setup) (table : Snapshot) (lost : Losses) : Type 0 where
  pub net : IsNet s.net
  pub sound : IsSound (plan_of s.net)
  pub losses : IsLossTable s.net lost
  pub short : SendsShort s
  pub is_table : IsTableOf s table
