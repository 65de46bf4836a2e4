-- Trusted text, but for CanRun, IsFirstScene.
-- The book of the run of an input on its nodes.
--     CanRun i              what a run asks of its input
--     IsFirstScene i v      the scene where nothing has happened to the nodes of an input
--     IsEndedBook ..        how the book of any run ends: its world is finished, and cut consistently for each number
--     IsRunBook ..          the book of the run of a script: legal, bounded, and ended so
use Rattle.std.specs.Prelude.{◌≡◌, ℕ, ◌≤◌, List, length, Option}
use Rattle.std.specs.List.{All}
use Rattle.sl_machine.specs.declared.wiring.Entry.{Entry}
use Rattle.sl_loss.specs.Loss.{Loss}
use Rattle.sl_layout.specs.Wiring.{plan_of}
use Rattle.sl_net.specs.Wired.{IsNet}
use Rattle.sl_net.specs.Input.{Input}
use Rattle.sl_flow.specs.Flow.{HasAddresses}
use Rattle.sl_wire.specs.declared.message.Msg.{Msg}
use Rattle.sl_unit.specs.Made.{IsRanged}
use Rattle.sl_simulation.specs.Messages.{CarryIds}
use Rattle.sl_model.specs.History.{Losses}
use Rattle.sl_model.specs.Losses.{losses}
use Rattle.sl_model.specs.Setup.{setup_of}
use Rattle.sl_model.specs.World.{world}
use Rattle.sl_model.specs.End.{IsFinished}
use Rattle.sl_model.specs.Books.{schedule_of}
use Rattle.sl_model.specs.Finished.{IsBookOfRun}
use Rattle.sl_model.specs.Bound.{input_bound}
use Rattle.sl_model.specs.Cut.{cuts}
use Rattle.sl_model.specs.Matching.{IsConsistentCut}
use Rattle.sl_model.specs.Short.{SendsShort}
use Rattle.sl_world.specs.Scene.{Scene, first_scene}
use Rattle.sl_proto.specs.Built.{first_states}
use Rattle.sl_proto.specs.Nodes.{NodeState}
use Rattle.sl_proto.specs.Script.{IsScriptEntry}
use Rattle.sl_proto.specs.Standing.{AreNewLosses}

-- a net, a snapshot table within its ranges whose ids frames carry, flows whose hosts have addresses, frames of bytes, and a script of the
-- net's choices
pub record CanRun (i : Input) : Type 0 where
  pub net : IsNet i.net
  pub snapshot : IsRanged i.snapshot
  pub carried : CarryIds i.net i.snapshot
  pub addresses : All HasAddresses i.flows
  pub short : SendsShort (setup_of i)
  pub script : All (IsScriptEntry i.net) i.script

-- the scene where nothing has happened to the nodes of an input
pub record IsFirstScene (i : Input) (v : Scene NodeState Msg) : Type 0 where
  pub losses_are : List (Option Loss)
  pub new : AreNewLosses i.net (losses i) losses_are
  pub is : v ≡ first_scene (plan_of i.net) (first_states i) losses_are

-- its world is finished, and for each number the steps before the units' ids reached it are a consistent cut, whatever the verdict on it
pub record IsEndedBook (i : Input) (lost : Losses) (book : List Entry) : Type 0 where
  pub finished : IsFinished (setup_of i) lost (world (setup_of i) lost (schedule_of book))
  pub cuts_consistent : (k : ℕ) → IsConsistentCut i.net lost (world (setup_of i) lost (schedule_of book)) (cuts (world (setup_of i) lost (schedule_of book)) k)

-- the book is the script's and then what finishing takes, and legal, with so many entries before finishing, and at most as many in all as the bound says
pub record IsRunBook (i : Input) (lost : Losses) (book : List Entry) (front : ℕ) : Type 0 where
  pub run : IsBookOfRun i lost book front
  pub within : length book ≤ input_bound i
  pub ended : IsEndedBook i lost book
