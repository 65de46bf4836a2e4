-- Trusted text, but for HasEnded, IsOutcomeOf, IsOutcome.
-- What a run of an input on its nodes comes to, and what it leaves.
--     HasEnded IsBook ..    the scene to which a run with such a book came
--     AreNodesOf i w ns     one node per actor, each of which stands for its history
--     IsOutcomeOf IsBook .. the book, the findings and the nodes of a run with such a book
use Rattle.std.specs.Prelude.{◌≡◌, ℕ, ◌<◌, ◌^◌, List, length, Some, slice_get}
use Rattle.sl_machine.specs.declared.wiring.Entry.{Entry}
use Rattle.sl_net.specs.Input.{Input}
use Rattle.sl_wire.specs.declared.message.Msg.{Msg}
use Rattle.sl_model.specs.declared.findings.Findings.{Findings}
use Rattle.sl_model.specs.History.{World, Losses}
use Rattle.sl_model.specs.Setup.{setup_of}
use Rattle.sl_model.specs.World.{world}
use Rattle.sl_model.specs.Books.{schedule_of}
use Rattle.sl_model.specs.Findings.{findings}
use Rattle.sl_world.specs.Scene.{Scene}
use Rattle.sl_proto.specs.Nodes.{NodeState}
use Rattle.sl_proto.specs.Meaning.{NodeStands}
use Rattle.sl_proto.specs.Standing.{case_of, StandsFor}
use Rattle.sl_proto.specs.RunBook.{IsRunBook}

-- the scene v has such a book, of fewer than 2^40 entries and so many before finishing, and stands for the world of its book
pub record HasEnded (IsBook : Input → Losses → List Entry → ℕ → Type 0) (i : Input) (lost : Losses) (v : Scene NodeState Msg) (front : ℕ) : Type 0 where
  pub run : IsBook i lost v.book front
  pub stands : StandsFor i.net (case_of i lost) v
  pub few : length v.book < 2 ^ 40

pub record AreNodesOf (i : Input) (w : World) (nodes : List NodeState) : Type 0 where
  pub each : length nodes ≡ length i.net.actors
  pub stand : (a : ℕ) (node : NodeState) → slice_get nodes a ≡ Some node → NodeStands (setup_of i) i.snapshot w a node

-- a run with such a book: the findings are those of the book's schedule, and the nodes those of the world that it leads to
pub record IsOutcomeOf (IsBook : Input → Losses → List Entry → ℕ → Type 0) (i : Input) (lost : Losses) (book : List Entry) (front : ℕ) (found : Findings) (nodes : List NodeState) : Type 0 where
  pub run : IsBook i lost book front
  pub tells : found ≡ findings (setup_of i) lost (schedule_of book)
  pub stand : AreNodesOf i (world (setup_of i) lost (schedule_of book)) nodes

-- of the run of the script
abbrev pub IsOutcome : Input → Losses → List Entry → ℕ → Findings → List NodeState → Type 0
IsOutcome i lost book front found nodes = IsOutcomeOf IsRunBook i lost book front found nodes
