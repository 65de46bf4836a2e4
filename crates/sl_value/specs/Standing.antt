-- What nodes that keep values stand for. us gives the history of each actor, a is a control plane's number.
--     values_told net u g        the values of a unit u of which the history g was told: of the numbers that the unit had reached
--     AreKept net us a kept      what the control plane a keeps are the values of the units that it serves
--     ValueStands s table w a state    in the world w this is the state of the actor a; table is the snapshot table
--     AnswersAsTold net us a kept      where what the control plane a keeps has a value of a unit for a number, and which
use Rattle.std.specs.Prelude.{◌≡◌, ℕ, ◌<◌, ◌≤◌, List, map, Option, Some, None}
use Rattle.std.specs.List.{range_with_len}
use Rattle.sl_parts.specs.Lists.{Each}
use Rattle.sl_layout.specs.Net.{Net, unit_place}
use Rattle.sl_layout.specs.Serving.{ServedUnit, served}
use Rattle.sl_net.specs.declared.input.Snapshot.{Snapshot}
use Rattle.sl_model.specs.History.{History, World, history}
use Rattle.sl_model.specs.Setup.{Setup}
use Rattle.sl_model.specs.Knowledge.{upto_of, told_of}
use Rattle.sl_proto.specs.Meaning.{NodeStands}
use Rattle.sl_proto.specs.Nodes.{ControlNode}
use Rattle.sl_value.specs.declared.whole.Whole.{Whole}
use Rattle.sl_value.specs.Counted.{counted}
use Rattle.sl_value.specs.Valued.{UnitValues, value_in}
use Rattle.sl_value.specs.Nodes.{ValueNodeState, plain}

abbrev pub values_told : Net → ℕ → History → List Whole
values_told net u g = map (λ k. counted k g) (range_with_len 1 (upto_of net u g))

abbrev pub kept_told : Net → (ℕ → History) → ℕ → ServedUnit → UnitValues
kept_told net us a v = record { unit = unit_place net v.unit; values = values_told net v.unit (told_of us v (us a)) }

abbrev pub AreKept : Net → (ℕ → History) → ℕ → List UnitValues → Type 0
AreKept net us a kept = kept ≡ map (kept_told net us a) (served net a)

abbrev pub KeepsValues : Net → World → ℕ → ValueNodeState → Type 0
KeepsValues net w a (ControlNode s) = AreKept net (history w) a s.kept
KeepsValues net w a _ = Unit {0}

pub record ValueStands (s : Setup) (table : Snapshot) (w : World) (a : ℕ) (state : ValueNodeState) : Type 0 where
  pub node : NodeStands s table w a (plain state)
  pub values : KeepsValues s.net w a state

-- What is answered of a unit u of which the history g was told: for a number from 1 up to that of its collected rows what it counted in g, and no more.
pub record IsToldOf (net : Net) (u : ℕ) (g : History) (answer : ℕ → Option Whole) : Type 0 where
  pub collected : (k : ℕ) → 1 ≤ k → k ≤ upto_of net u g → answer k ≡ Some (counted k g)
  pub zero : answer 0 ≡ None
  pub above : (k : ℕ) → upto_of net u g < k → answer k ≡ None

-- so of each unit that the control plane a serves, and nothing for a place where none of these is
pub record AnswersAsTold (net : Net) (us : ℕ → History) (a : ℕ) (kept : List UnitValues) : Type 0 where
  pub units : Each (λ v. IsToldOf net v.unit (told_of us v (us a)) (λ k. value_in kept (unit_place net v.unit) k)) (served net a)
  pub others : (place k : ℕ) → Each (λ v. unit_place net v.unit ≡ place → ⊥) (served net a) → value_in kept place k ≡ None
