-- Trusted text for nodes, but for IsDistance, UnitSimulates, IsStampNear, CanTake, step_on.
-- What the machine of a unit stands for. table is the snapshot table, u the unit's number, i the unit, h its history.
--     IsDistance bits from to        wrapped ids tell how far a number lies above another
--     Keeps sizes saved calls        the ring of a machine keeps what some calls saved
--     IsUnitOf net table u i h m     the state m stands for the history h
--     UnitSimulates ..               a turn of the machine simulates a step of the unit
--     CanTake net table u c l h m    after any history h the unit can take the message m by the choice c, from the link l
--     step_on net u i h c l m        the step in which it does
use Rattle.std.specs.Prelude.{◌≡◌, ◌≤◌, ◌<◌, ◌+◌, ◌-◌, ◌^◌, ℕ, true, List, length, map, Some, slice_get}
use Rattle.sl_ids.specs.Ids.{modulus, wrapped, distance}
use Rattle.sl_ids.specs.Wids.{wid}
use Rattle.sl_machine.specs.Machine.{After}
use Rattle.sl_layout.specs.declared.actor.Side.{Side}
use Rattle.sl_layout.specs.declared.actor.Side.TheVariants.{Ingress, Egress}
use Rattle.sl_layout.specs.declared.actor.UnitId.{UnitId}
use Rattle.sl_net.specs.declared.input.Snapshot.{Snapshot}
use Rattle.sl_layout.specs.Net.{Net, links_into, data_channels}
use Rattle.sl_saves.specs.Calls.{Call}
use Rattle.sl_saves.specs.declared.entry.View.{View}
use Rattle.sl_saves.specs.Views.{IsShown}
use Rattle.sl_wire.specs.declared.message.Msg.{Msg}
use Rattle.sl_wire.specs.Sizes.{Sizes, sizes_of}
use Rattle.sl_unit.specs.Registers.{Registers}
use Rattle.sl_unit.specs.Step.{UnitState}
use Rattle.sl_unit.specs.Made.{ingress_state, egress_state}
use Rattle.sl_model.specs.declared.message.Message.{Message}
use Rattle.sl_model.specs.declared.message.Put.{Put}
use Rattle.sl_model.specs.declared.message.Step.{Step}
use Rattle.sl_model.specs.History.{History, id, last, stamp_of}
use Rattle.sl_model.specs.Counting.{packets, bytes, bad, expired, noroute}
use Rattle.sl_model.specs.Calls.{calls}
use Rattle.sl_model.specs.Fit.{fits_link}
use Rattle.sl_model.specs.LastSeen.{lasts, cpu_last}
use Rattle.sl_model.specs.Puts.{unit_puts}
use Rattle.sl_model.specs.Short.{IsShort, TakesShort}
use Rattle.sl_model.specs.World.{taking}
use Rattle.sl_simulation.specs.Messages.{eight}
use Rattle.sl_simulation.specs.Simulates.{Simulates}

-- a number lies from another to less than the modulus above it, and their wrapped ids tell how far
pub record IsDistance (bits from to : ℕ) : Type 0 where
  pub order : from ≤ to
  pub near : to < from + modulus bits
  pub told : distance bits (wrapped bits from) (wrapped bits to) ≡ to - from

-- it has so many slots, and shows them
pub record Keeps (sizes : Sizes) (saved : View) (calls : List Call) : Type 0 where
  pub shown : IsShown sizes.credits saved calls
  pub size : length saved.slots ≡ sizes.ring

-- the state of a new unit
abbrev pub new_state : Net → ℕ → Snapshot → Side → UnitState
new_state net u table Ingress = ingress_state net u table
new_state net u table Egress = egress_state net u table

-- an ingress unit alone drops what it took
abbrev pub dropped : Side → ℕ → ℕ
dropped Ingress n = n
dropped Egress n = 0

-- the ids are wrapped
pub record HasRegisters (net : Net) (sizes : Sizes) (u : ℕ) (i : UnitId) (h : History) (r : Registers) : Type 0 where
  pub id : r.id ≡ wid sizes.bits (id h)
  pub cpu : r.cpu ≡ wid sizes.bits (cpu_last net u h)
  pub last : r.last ≡ map (wid sizes.bits) (eight (lasts net u h))
  pub packets : r.packets ≡ packets h
  pub bytes : r.bytes ≡ bytes h
  pub bad : r.bad ≡ dropped i.side (bad h)
  pub expired : r.expired ≡ dropped i.side (expired h)
  pub noroute : r.noroute ≡ dropped i.side (noroute net.parts i.device h)
  pub saved : Keeps sizes r.saved (calls (data_channels net u) h)

-- links, window and credits never change
pub record IsUnitOf (net : Net) (table : Snapshot) (u : ℕ) (i : UnitId) (h : History) (m : UnitState) : Type 0 where
  pub wires : m.wires ≡ (new_state net u table i.side).wires
  pub window : m.window ≡ table.window
  pub credits : m.credits ≡ table.credits
  pub registers : HasRegisters net (sizes_of table) u i h m.registers

-- us gives the history of each actor after the step, ps the puts of the step; a unit tells of no other, so told doesn't matter
abbrev pub UnitSimulates : Net → Snapshot → ℕ → UnitId → (ℕ → History) → (ℕ → ℕ) → List Put → After UnitState Msg → Type 0
UnitSimulates net table u i us told ps after = Simulates (IsUnitOf net table u i (us u)) net (sizes_of table) us u told ps after

-- a stamp j by the choice c is read from the last-seen number there on, at most the window above it, and the id lies at most the window above it
pub record IsStampNear (window c : ℕ) (h : History) (j : ℕ) : Type 0 where
  pub order : last c h ≤ j
  pub ahead : j ≤ last c h + window
  pub lag : id h ≤ last c h + window

-- the link leads to the unit and carries such messages, packets are short, the history has fewer than 2^40 steps, and a stamp is near; that a
-- schedule leads to the history isn't asked
pub record CanTake (net : Net) (table : Snapshot) (u c l : ℕ) (h : History) (m : Message) : Type 0 where
  pub into : slice_get (links_into net u) c ≡ Some l
  pub fits : fits_link net l m ≡ true
  pub few : length h < 2 ^ 40
  pub packets : TakesShort h
  pub packet : IsShort m
  pub near : (j : ℕ) → stamp_of m ≡ Some j → IsStampNear table.window c h j

abbrev pub step_on : Net → ℕ → UnitId → History → ℕ → ℕ → Message → Step
step_on net u i h c l m = taking c m (unit_puts net u i h c l m)
