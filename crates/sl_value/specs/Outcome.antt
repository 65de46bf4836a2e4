-- What is told of a world of nodes that keep values.
--     value_told r unit k     the value for k that the control plane of a unit keeps, the unit by its place
--     world_after r           the world of histories to which the book leads
--     CanList r o count       what is asked so that the values are listed, where the observer has the state o
use Rattle.std.specs.Prelude.{◌≡◌, ℕ, ◌<◌, ◌≤◌, length, Option, Some, None, slice_get, slice_index}
use Rattle.sl_layout.specs.declared.actor.ActorId.{ActorId}
use Rattle.sl_layout.specs.declared.actor.ActorId.TheVariants.{Unit as OfUnit}
use Rattle.sl_layout.specs.Net.{Net, actor_of, units, unit_place}
use Rattle.sl_control.specs.Wires.{control_of}
use Rattle.sl_observe.specs.Observer.{ObserverState}
use Rattle.sl_model.specs.Accounts.{verdict_by}
use Rattle.sl_model.specs.Books.{schedule_of}
use Rattle.sl_model.specs.History.{World, history}
use Rattle.sl_model.specs.Losses.{losses}
use Rattle.sl_model.specs.Setup.{setup_of}
use Rattle.sl_model.specs.World.{world}
use Rattle.sl_proto.specs.Nodes.{ControlNode}
use Rattle.sl_proto.specs.Told.{HasAllRows, accounts_of}
use Rattle.sl_value.specs.declared.whole.Whole.{Whole}
use Rattle.sl_value.specs.declared.verdict.ValueVerdict.TheVariants.{Whole as IsWhole}
use Rattle.sl_value.specs.Counted.{counted}
use Rattle.sl_value.specs.Valued.{value_in}
use Rattle.sl_value.specs.Nodes.{ValueNodeState}
use Rattle.sl_value.specs.Verdicts.{value_verdict, valued}
use Rattle.sl_value.specs.Run.{ValueRunning}

-- the number of the control plane of a unit
abbrev pub control_for : Net → ActorId → ℕ
control_for net (OfUnit i) = control_of net i.device
control_for net _ = 0

abbrev pub value_at : Option ValueNodeState → ℕ → ℕ → Option Whole
value_at (Some (ControlNode s)) unit k = value_in s.kept unit k
value_at _ unit k = None

abbrev pub value_told : ValueRunning → ℕ → ℕ → Option Whole
value_told r unit k = value_at (slice_get r.scene.states (control_for r.input.net (actor_of r.input.net (slice_index (units r.input.net) unit)))) (unit_place r.input.net (slice_index (units r.input.net) unit)) k

abbrev pub world_after : ValueRunning → World
world_after r = world (setup_of r.input) (losses r.input) (schedule_of r.scene.book)

-- the control plane of each unit keeps what the unit counted before its id reached k
abbrev pub HasValues : ValueRunning → ℕ → Type 0
HasValues r k = (unit : ℕ) → unit < length (units r.input.net) → value_told r unit k ≡ Some (counted k (history (world_after r) (slice_index (units r.input.net) unit)))

pub record CanList (r : ValueRunning) (o : ObserverState) (count : ℕ) : Type 0 where
  pub each : length r.scene.states ≡ length r.input.net.actors
  pub collected : HasAllRows r.input.net o
  pub verdicts : (k : ℕ) → 1 ≤ k → k ≤ count → valued (verdict_by o.issued (accounts_of o) k) ≡ value_verdict r.input.net (world_after r) k
  pub values : (k : ℕ) → 1 ≤ k → value_verdict r.input.net (world_after r) k ≡ IsWhole → HasValues r k
