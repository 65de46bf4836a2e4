-- How the observer keeps what it stands for.
use Rattle.std.specs.Prelude.{◌≡◌, ℕ, ◌≤◌, ◌<◌, Bool, true, List, [], length, map, Option, None, Some, slice_index_or}
use Rattle.std.specs.Bool.{OnTrue, OnFalse}
use Rattle.sl_machine.specs.Machine.{After, Puts, is_fitting}
use Rattle.sl_net.specs.declared.input.Snapshot.{Snapshot}
use Rattle.sl_wire.specs.declared.message.Msg.{Msg}
use Rattle.sl_observe.specs.declared.spans.Span.{Span}
use Rattle.sl_observe.specs.Observer.{UnitState, ObserverState, new_unit, unit_at, floors_of, observer_counts}

-- a unit, and for how many rows more there is room
pub record Collected : Type 0 where
  pub state : UnitState
  pub room : ℕ

-- the state, and the choice that it is ready for
pub record Observer : Type 0 where
  pub state : ObserverState
  pub ready : Option ℕ

-- an action that is idle or did something, from the one to the other, and the puts before it and after it
pub record Acted (act : ObserverState → Option (After ObserverState Msg)) (answer : Bool) (old new : Observer) (before after : Puts Msg) : Type 0 where
  pub did : OnTrue answer (act old.state ≡ Some (record { state = new.state; puts = after.items }))
  pub idle : OnFalse answer (act old.state ≡ None)
  pub same : OnFalse answer (new.state ≡ old.state)
  pub nothing : OnFalse answer (after.items ≡ [])
  pub fitting : is_fitting old.state.outs after.items ≡ true
  pub room : after.room ≡ before.room
  pub counts : observer_counts new.state ≡ observer_counts old.state
  pub ready : new.ready ≡ old.ready

abbrev pub states : List Collected → List UnitState
states us = map (λ u. u.state) us

abbrev pub collected_at : List Collected → ℕ → Collected
collected_at us k = slice_index_or us k (record { state = new_unit 0 0; room = 0 })

abbrev pub state_of : ℕ → ℕ → Snapshot → ℕ → ℕ → List Collected → ObserverState
state_of ins outs snapshot issued resent us = record { ins = ins; outs = outs; snapshot = snapshot; issued = issued; resent = resent; units = states us }

-- the units of a device lie within a span
pub record HasSpan (us : List UnitState) (device : ℕ) (span : Span) : Type 0 where
  pub within : span.end ≤ length us
  pub covers : (k : ℕ) → k < length us → (unit_at us k).device ≡ device → (span.first ≤ k) × (k < span.end)

abbrev pub span_at : List Span → ℕ → Span
span_at spans d = slice_index_or spans d (record { first = 0; end = 0 })

-- there is one span for each device, in order
pub record HaveSpans (us : List UnitState) (count : ℕ) (spans : List Span) : Type 0 where
  pub size : length spans ≡ count
  pub each : (d : ℕ) → d < count → HasSpan us d (span_at spans d)

-- each unit of a device has room for a ring of rows
abbrev pub HasRoom : ℕ → ℕ → List Collected → Type 0
HasRoom ring device us = (k : ℕ) → k < length us → (collected_at us k).state.device ≡ device → ring ≤ (collected_at us k).room

-- each unit of a device has this room, but perhaps the one at a place
abbrev pub HasRoomBut : ℕ → ℕ → ℕ → List Collected → Type 0
HasRoomBut ring device place us = (k : ℕ) → k < length us → (k ≡ place → ⊥) → (collected_at us k).state.device ≡ device → ring ≤ (collected_at us k).room

-- where a place stands for a device, only the unit there may lack room
abbrev pub HaveRoomBut : ℕ → List (Option ℕ) → List Collected → Type 0
HaveRoomBut ring shorts us = (d place : ℕ) → slice_index_or shorts d None ≡ Some place → HasRoomBut ring d place us

pub record IsKept (ins ring : ℕ) (us : List Collected) (floors : List ℕ) (spans : List Span) (shorts : List (Option ℕ)) (prepared : Option ℕ) : Type 0 where
  pub floors_are : floors ≡ floors_of (states us)
  pub spans_are : HaveSpans (states us) ins spans
  pub shorts_size : length shorts ≡ ins
  pub shorts_are : HaveRoomBut ring shorts us
  pub room : (c : ℕ) → prepared ≡ Some c → c < ins → HasRoom ring c us
