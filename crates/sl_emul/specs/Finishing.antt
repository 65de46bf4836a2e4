-- What finishing leads to, and what is told of it.
use Rattle.std.specs.Prelude.{◌≡◌, ℕ, ◌<◌, ◌^◌, List, length}
use Rattle.sl_machine.specs.declared.wiring.Entry.{Entry}
use Rattle.sl_net.specs.Input.{Input}
use Rattle.sl_wire.specs.declared.message.Msg.{Msg}
use Rattle.sl_model.specs.declared.findings.Findings.{Findings}
use Rattle.sl_model.specs.History.{Losses}
use Rattle.sl_model.specs.Setup.{setup_of}
use Rattle.sl_model.specs.Books.{schedule_of}
use Rattle.sl_model.specs.Findings.{findings}
use Rattle.sl_world.specs.Scene.{Scene}
use Rattle.sl_proto.specs.Nodes.{NodeState}
use Rattle.sl_proto.specs.Standing.{case_of, StandsFor, FinishesTo}

-- from the scene u finishing leads to the scene v, of fewer than 2^40 entries; the front is how many entries u has
pub record IsFinishedFrom (i : Input) (lost : Losses) (u v : Scene NodeState Msg) (front : ℕ) : Type 0 where
  pub finishing : FinishesTo (case_of i lost) u v
  pub stands : StandsFor i.net (case_of i lost) v
  pub few : length v.book < 2 ^ 40
  pub front_is : front ≡ length u.book

-- of the scene v to which a run with this front came are told its book, its front, the findings of its book's schedule, and its nodes
pub record IsToldOf (i : Input) (lost : Losses) (v : Scene NodeState Msg) (front : ℕ) (book : List Entry) (told_front : ℕ) (found : Findings) (nodes : List NodeState) : Type 0 where
  pub book_is : book ≡ v.book
  pub front_is : told_front ≡ front
  pub tells : found ≡ findings (setup_of i) lost (schedule_of v.book)
  pub nodes_are : nodes ≡ v.states
