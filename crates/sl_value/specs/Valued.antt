-- A control plane that keeps values besides, as data. It takes turns as a control plane does, puts the same, and with each report that it puts on a dump
-- it keeps the values, by the dump's view, of the numbers that the report brings.
--     value_take s c m        what it makes of the message m that it takes by the choice c
--     value_act s c           what its own action does, or None where it is idle
--     value_in us unit k      the value that is kept of a unit for the number k
use Rattle.std.specs.Prelude.{ℕ, ◌+◌, ◌<◌, ◌≤◌, ◌-◌, ◌==◌, if◌then◌else◌, List, [], ◌∷◌, ◌++◌, length, map, Option, Some, None, option_map, slice_get, vec_capacity}
use Rattle.std.specs.List.{AllByRecursion}
use Rattle.sl_machine.specs.Machine.{After, Rules, Counts}
use Rattle.sl_layout.specs.Net.{Net, unit_place}
use Rattle.sl_layout.specs.Serving.{served}
use Rattle.sl_saves.specs.declared.entry.View.{View}
use Rattle.sl_saves.specs.Views.{IsLive}
use Rattle.sl_wire.specs.declared.message.Done.{Done}
use Rattle.sl_wire.specs.declared.message.Msg.{Msg}
use Rattle.sl_wire.specs.declared.message.Msg.TheVariants.{Dump as DumpMsg, Done as DoneMsg}
use Rattle.sl_wire.specs.Sizes.{Sizes}
use Rattle.sl_control.specs.Control.{ControlState, control_take, control_act}
use Rattle.sl_control.specs.Wires.{first_control}
use Rattle.sl_value.specs.declared.whole.Whole.{Whole}
use Rattle.sl_value.specs.declared.kept.Kept.{Kept}
use Rattle.sl_value.specs.Counted.{value_read}

-- the values of a unit, by its place among the units, of the numbers from 1 on
pub record UnitValues : Type 0 where
  pub unit : ℕ
  pub values : List Whole

pub record ValueState : Type 0 where
  pub control : ControlState
  pub kept : List UnitValues

-- what contracts see of it
pub record ValueView : Type 0 where
  pub state : ValueState
  pub counts : Counts
  pub ready : Option ℕ

-- Reports.

abbrev pub done_in : Msg → Option Done
done_in (DoneMsg d) = Some d
done_in _ = None

abbrev pub or_done : Option Done → Option Done → Option Done
or_done None o = o
or_done (Some d) o = Some d

-- the first report among the puts of a turn
abbrev pub first_done : List (ℕ × Msg) → Option Done
first_done [] = None
first_done (p ∷ ps) = or_done (done_in p.1) (first_done ps)

-- the values of the numbers that a report brings
abbrev pub values_by : View → Done → List Whole
values_by view d = map (λ r. value_read view d.id r.0) d.rows

abbrev pub kept_of : View → Done → UnitValues → UnitValues
kept_of view d u = if d.unit == u.unit then record u { values = u.values ++ values_by view d } else u

abbrev pub kept_by : View → Option Done → List UnitValues → List UnitValues
kept_by view None us = us
kept_by view (Some d) us = map (kept_of view d) us

-- with what is put on a message
abbrev pub kept_after : Msg → List (ℕ × Msg) → List UnitValues → List UnitValues
kept_after (DumpMsg d) ps us = kept_by d.view (first_done ps) us
kept_after _ ps us = us

-- The step.

abbrev pub value_take : ValueState → ℕ → Msg → After ValueState Msg
value_take s c m = record {
  state = record { control = (control_take s.control c m).state; kept = kept_after m (control_take s.control c m).puts s.kept };
  puts = (control_take s.control c m).puts;
}

abbrev pub with_kept : List UnitValues → After ControlState Msg → After ValueState Msg
with_kept us a = record { state = record { control = a.state; kept = us }; puts = a.puts }

abbrev pub value_act : ValueState → ℕ → Option (After ValueState Msg)
value_act s c = option_map (with_kept s.kept) (control_act s.control c)

abbrev pub value_rules : Rules ValueState Msg
value_rules = record { take = value_take; act = value_act }

-- The step without the values.

abbrev pub forget : After ValueState Msg → After ControlState Msg
forget a = record { state = a.state.control; puts = a.puts }

-- The first state: that of the control plane, and no value of each unit that it serves.

abbrev pub no_values : ℕ → UnitValues
no_values place = record { unit = place; values = [] }

abbrev pub first_kept : Net → ℕ → List UnitValues
first_kept net a = map (λ v. no_values (unit_place net v.unit)) (served net a)

abbrev pub first_value : Net → ℕ → Sizes → ValueState
first_value net a sizes = record { control = first_control net a sizes; kept = first_kept net a }

-- What is kept.

abbrev pub value_of : List Whole → ℕ → Option Whole
value_of values k = if k == 0 then None else slice_get values (k - 1)

-- of the first entry of the unit
abbrev pub value_in : List UnitValues → ℕ → ℕ → Option Whole
value_in [] unit k = None
value_in (u ∷ us) unit k = if u.unit == unit then value_of u.values k else value_in us unit k

-- Within the code.

abbrev pub kept_view : Kept → UnitValues
kept_view u = record { unit = u.unit; values = u.values.items }

-- there is room for so many values more
abbrev pub HasRoom : ℕ → Kept → Type 0
HasRoom n u = length u.values.items + n ≤ vec_capacity u.values

-- each row of a report can be read by a view
pub record CanRead (view : View) (id k : ℕ) : Type 0 where
  pub least : 1 ≤ k
  pub most : k ≤ id
  pub near : id < k + length view.slots
  pub live : IsLive view id k

pub record CanReadAll (ring : ℕ) (view : View) (d : Done) : Type 0 where
  pub at : view.at < length view.slots
  pub few : length d.rows ≤ ring
  pub rows : AllByRecursion (λ r. CanRead view d.id r.0) d.rows
