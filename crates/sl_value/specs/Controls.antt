-- The control planes that a run leaves, which keep values.
--     AreControls i book controls   one per device in order, each of which stands for its history in the world that the book leads to
--     IsAnswered net controls f     each value of a finding is what the control plane of the unit's device answers
use Rattle.std.specs.Prelude.{◌≡◌, ℕ, List, length, Option, Some, None, slice_get, slice_index}
use Rattle.sl_machine.specs.declared.wiring.Entry.{Entry}
use Rattle.sl_layout.specs.Net.{Net, actor_of, units}
use Rattle.sl_net.specs.Input.{Input}
use Rattle.sl_net.specs.Wired.{home}
use Rattle.sl_control.specs.Wires.{control_of}
use Rattle.sl_model.specs.Books.{schedule_of}
use Rattle.sl_model.specs.Losses.{losses}
use Rattle.sl_model.specs.Setup.{setup_of}
use Rattle.sl_model.specs.World.{world}
use Rattle.sl_value.specs.declared.whole.Whole.{Whole}
use Rattle.sl_value.specs.declared.verdict.ValueFinding.{ValueFinding}
use Rattle.sl_proto.specs.Nodes.{ControlNode}
use Rattle.sl_value.specs.Valued.{ValueState, value_in}
use Rattle.sl_value.specs.Standing.{ValueStands}

pub record AreControls (i : Input) (book : List Entry) (controls : List ValueState) : Type 0 where
  pub each : length controls ≡ length i.net.parts.devices
  pub stand : (d : ℕ) (control : ValueState) → slice_get controls d ≡ Some control
      → ValueStands (setup_of i) i.snapshot (world (setup_of i) (losses i) (schedule_of book)) (control_of i.net d) (ControlNode control)

-- the device of a unit, by its place among the units
abbrev pub device_at : Net → ℕ → ℕ
device_at net unit = home (actor_of net (slice_index (units net) unit))

abbrev pub answer_of : Option ValueState → ℕ → ℕ → Option Whole
answer_of (Some control) unit k = value_in control.kept unit k
answer_of None unit k = None

abbrev pub IsAnswered : Net → List ValueState → ValueFinding → Type 0
IsAnswered net controls f = (unit : ℕ) (v : Whole) → slice_get f.values unit ≡ Some v → answer_of (slice_get controls (device_at net unit)) unit f.k ≡ Some v
