-- Trusted text for nodes, in part.
-- What the messages of machines stand for: a stamp is a wrapped id in a frame, with the sender's port; a frame on a cable has the version
-- of that cable, and on another stamped link that of the snapshot table. us gives the history of each actor, sizes are those of what dumps hold.
--     HoldWindow window sizes             what sizes must be for the numbers of a window
--     CarryIds net table                  frames carry all ids of the snapshot table's width on each link
--     numbers_after net u g               the numbers that a unit u has after its history g
--     IsDumpOf net sizes u g d            d has the registers of the unit u after its history g
--     IsDoneOf n net u before now d       d brings, over what was known of the unit u before, what is known now, with credits to n saved numbers
--     IsMessage net sizes us a told m x   x stands for the message m that the actor a puts
--     AreSent net sizes us a told ps xs   the puts of a machine stand for those of a step
-- told gives for the place of each unit how many of its steps were told before.
use Rattle.std.specs.Prelude.{◌≡◌, ℕ, ◌<◌, ◌≤◌, List, [], ◌∷◌, ◌++◌, map, take, length, replicate, slice_index, IsTrue}
use Rattle.std.specs.List.{All}
use Rattle.sl_ids.specs.Ids.{most_bits, modulus}
use Rattle.sl_ids.specs.Wids.{wid}
use Rattle.sl_layout.specs.Net.{Net, actor_of, units, unit_place, data_channels}
use Rattle.sl_layout.specs.Wires.{out_of}
use Rattle.sl_saves.specs.declared.entry.Saved.{Saved}
use Rattle.sl_saves.specs.Views.{IsShown, held_saved}
use Rattle.sl_net.specs.declared.input.Snapshot.{Snapshot}
use Rattle.sl_wire.specs.Frames.{carries, carried_header, probe_header, init_header, no_packet}
use Rattle.sl_wire.specs.Carried.{framed, carrying, poll}
use Rattle.sl_wire.specs.declared.message.Dump.{Dump}
use Rattle.sl_wire.specs.declared.message.Done.{Done}
use Rattle.sl_wire.specs.declared.message.Msg.{Msg}
use Rattle.sl_wire.specs.declared.message.Msg.TheVariants as wire
use Rattle.sl_wire.specs.Sizes.{Sizes}
use Rattle.sl_unit.specs.Made.{port_of, version_of}
use Rattle.sl_control.specs.declared.known.Numbers.{Numbers}
use Rattle.sl_control.specs.Rows.{span}
use Rattle.sl_model.specs.declared.message.Message.{Message}
use Rattle.sl_model.specs.declared.message.Message.TheVariants.{Host, Data, Probe, Init, Poll, Notice, Dump as DumpMsg, Begin, Done as DoneMsg}
use Rattle.sl_model.specs.declared.message.Put.{Put}
use Rattle.sl_model.specs.History.{History, id, first}
use Rattle.sl_model.specs.Knowledge.{upto_of, floor_of}
use Rattle.sl_model.specs.Calls.{calls}
use Rattle.sl_model.specs.Rows.{row}
use Rattle.sl_model.specs.LastSeen.{lasts, cpu_last}

-- eight numbers, with 0 past those that there are
abbrev pub eight : List ℕ → List ℕ
eight xs = take 8 (xs ++ replicate 8 0)

-- a wrapped id stands for one number of a window, and a ring has a slot for each
pub record HoldWindow (window : ℕ) (sizes : Sizes) : Type 0 where
  pub few_bits : sizes.bits ≤ most_bits
  pub apart : window < modulus sizes.bits
  pub room : window ≤ sizes.ring

-- the frames of each version that is in use carry all ids
pub record CarryIds (net : Net) (n : Snapshot) : Type 0 where
  pub snapshot : IsTrue (carries n.width n.version)
  pub cables : All (λ c. IsTrue (carries n.width c.version)) net.parts.cables

abbrev pub numbers_after : Net → ℕ → History → Numbers
numbers_after net u g = record { id = id g; cpu = cpu_last net u g; last = eight (lasts net u g) }

-- the ids are wrapped
pub record IsDumpOf (net : Net) (sizes : Sizes) (u : ℕ) (g : History) (d : Dump) : Type 0 where
  pub id : d.id ≡ wid sizes.bits (id g)
  pub cpu : d.cpu ≡ wid sizes.bits (cpu_last net u g)
  pub last : d.last ≡ map (wid sizes.bits) (eight (lasts net u g))
  pub size : length d.view.slots ≡ sizes.ring
  pub shown : IsShown sizes.credits d.view (calls (data_channels net u) g)

-- a number with its row, as slots hold it
abbrev pub held_row : ℕ → Net → ℕ → History → ℕ → ℕ × Saved
held_row n net u g k = (k, held_saved (row n (data_channels net u) k g))

pub record IsDoneOf (n : ℕ) (net : Net) (u : ℕ) (before now : History) (d : Done) : Type 0 where
  pub unit : d.unit ≡ unit_place net u
  pub id : d.id ≡ id now
  pub last : d.last ≡ eight (lasts net u now)
  pub floor : d.floor ≡ floor_of net u now
  pub rows : d.rows ≡ map (held_row n net u now) (span (upto_of net u before) (upto_of net u now))

pub record SaysDump (net : Net) (sizes : Sizes) (u : ℕ) (g : History) (x : Msg) : Type 0 where
  pub dump : Dump
  pub is : x ≡ wire.Dump dump
  pub of : IsDumpOf net sizes u g dump

pub record SaysDone (n : ℕ) (net : Net) (u : ℕ) (before now : History) (x : Msg) : Type 0 where
  pub done : Done
  pub is : x ≡ wire.Done done
  pub of : IsDoneOf n net u before now done

-- the version of the frames that an actor sends to units
abbrev pub version_from : Net → Sizes → ℕ → ℕ
version_from net sizes a = version_of net.parts.cables sizes.version (actor_of net a)

abbrev pub IsMessage : Net → Sizes → (ℕ → History) → ℕ → (ℕ → ℕ) → Message → Msg → Type 0
IsMessage net sizes us a told (Host bytes) x = x ≡ carrying bytes
IsMessage net sizes us a told (Data s p) x = x ≡ framed (version_from net sizes a) (carried_header (wid sizes.bits s) (port_of (actor_of net a))) p
IsMessage net sizes us a told (Probe s) x = x ≡ framed (version_from net sizes a) (probe_header (wid sizes.bits s) (port_of (actor_of net a))) no_packet
IsMessage net sizes us a told (Init s) x = x ≡ framed sizes.version (init_header (wid sizes.bits s)) no_packet
IsMessage net sizes us a told Poll x = x ≡ poll
IsMessage net sizes us a told Notice x = x ≡ wire.Notice
IsMessage net sizes us a told (DumpMsg n) x = SaysDump net sizes a (first n (us a)) x
IsMessage net sizes us a told (Begin k) x = x ≡ wire.Begin k
IsMessage net sizes us a told (DoneMsg place n) x =
    let u : ℕ = slice_index (units net) place in SaysDone sizes.credits net u (first (told place) (us u)) (first n (us u)) x

-- in order, each on the outgoing link that has the number of the put's link
abbrev pub AreSent : Net → Sizes → (ℕ → History) → ℕ → (ℕ → ℕ) → List Put → List (ℕ × Msg) → Type 0
AreSent net sizes us a told [] [] = Unit {0}
AreSent net sizes us a told (p ∷ ps) (x ∷ xs) = ((x.0 ≡ out_of net p.link) × IsMessage net sizes us a told p.message x.1) × AreSent net sizes us a told ps xs
AreSent net sizes us a told _ _ = ⊥
