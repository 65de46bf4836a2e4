-- Trusted text for nodes, in part.
-- A control plane as data, and its step (Yaseen, Sonchack and Liu 2018: control planes initiate snapshots and collect what units saved).
--     control_take s c m     what it makes of the message m that it takes by the choice c
--     control_act s c        what its own action does, or None where it is idle
-- Of each unit of its device it knows what the latest dump told, up to which number the rows are collected, whether a poll is outstanding (`waits`),
-- and whether a notice or a sweep came since that poll (`again`).
use Rattle.std.specs.Prelude.{ℕ, min, max, Bool, true, false, not, ◌&&◌, List, [], ◌∷◌, map, flat_map, ◌==◌, cond, if◌then◌else◌, Option, Some, None}
use Rattle.std.specs.List.{list_all}
use Rattle.sl_machine.specs.Machine.{After, Rules, Counts, send_all}
use Rattle.sl_saves.specs.declared.entry.Saved.{Saved}
use Rattle.sl_ids.specs.Ids.{unwrapped}
use Rattle.sl_ids.specs.Wids.{wid}
use Rattle.sl_wire.specs.declared.message.Dump.{Dump}
use Rattle.sl_wire.specs.declared.message.Done.{Done}
use Rattle.sl_wire.specs.declared.message.Msg.{Msg}
use Rattle.sl_wire.specs.declared.message.Msg.TheVariants.{Notice as NoticeMsg, Dump as DumpMsg, Begin as BeginMsg, Done as DoneMsg}
use Rattle.sl_wire.specs.Carried.{poll}
use Rattle.sl_wire.specs.Carried.{framed}
use Rattle.sl_wire.specs.Frames.{init_header, no_packet}
use Rattle.sl_wire.specs.Reach.{reached}
use Rattle.sl_wire.specs.Sizes.{Lengths}
use Rattle.sl_wire.specs.Wids.{is_wid, has_room, unwrapped_each}
use Rattle.sl_saves.specs.declared.entry.View.{View}
use Rattle.sl_control.specs.declared.known.Known.{Known}
use Rattle.sl_control.specs.declared.known.Numbers.{Numbers}
use Rattle.sl_control.specs.Rows.{span, seen_on, is_sized, is_readable, row}

-- how a control plane is joined: the choices by which it takes Begins and sweeps; the places among its outgoing links of those for
-- initiations, ports ascending, and for Dones; the sizes by which the dumps of its units are read; and the version of its frames
pub record ControlWires : Type 0 where
  pub begin : ℕ
  pub sweep : ℕ
  pub inits : List ℕ
  pub done : ℕ
  pub sizes : Lengths
  pub version : ℕ

pub record ControlState : Type 0 where
  pub wires : ControlWires
  pub units : List Known

-- what contracts see of a control plane
pub record ControlView : Type 0 where
  pub state : ControlState
  pub counts : Counts
  pub ready : Option ℕ

-- Polls.

-- a notice or a sweep: a poll is outstanding afterwards, and where one was before, it is again
abbrev pub asked : Known → Known
asked r = record r { waits = true; again = r.waits }

abbrev pub poll_by : Known → List (ℕ × Msg)
poll_by r = if r.waits then [] else (r.wires.poll, poll) ∷ []

-- Dumps. Their ids are wrapped, and stand for numbers relative to those that were known.

-- each id of a dump is one of so many bits
abbrev pub has_wids : ℕ → Dump → Bool
has_wids bits d = is_wid bits d.id && (is_wid bits d.cpu && list_all (is_wid bits) d.last)

-- from each number that is known, all that a wrapped id may stand for fit 64 bits
abbrev pub has_rooms : ℕ → Known → Bool
has_rooms bits r = has_room bits r.id && (has_room bits r.cpu && list_all (has_room bits) r.last)

-- the numbers that a dump tells: each the least from the one that is known on that has the wrapped id
abbrev pub numbers_told : ℕ → Dump → Known → Numbers
numbers_told bits d r = record { id = unwrapped bits r.id d.id.raw; cpu = unwrapped bits r.cpu d.cpu.raw; last = unwrapped_each bits r.last d.last }

abbrev pub reached_by : Numbers → Known → ℕ
reached_by n r = reached r.wires.channels n.id n.last

-- the numbers whose rows a dump lets it collect
abbrev pub new_numbers : Numbers → Known → List ℕ
new_numbers n r = span r.upto (reached_by n r)

-- a poll to the unit is outstanding, the view is one of a unit's ring, and each new number can be read from it
abbrev pub is_read : ℕ → Numbers → View → Known → Bool
is_read ring n view r = r.waits && (is_sized ring view && list_all (is_readable view n.id) (new_numbers n r))

abbrev pub rows_of : Numbers → View → Known → List (ℕ × Saved)
rows_of n view r = map (row view n.id) (new_numbers n r)

-- for an ingress unit its control plane's last-seen id counts too
abbrev pub dump_floor : Numbers → Known → ℕ
dump_floor n r = if r.wires.ingress then min (reached_by n r) n.cpu else reached_by n r

abbrev pub done_of : Numbers → View → Known → Done
done_of n view r = record { unit = r.wires.place; id = n.id; last = seen_on r.wires.channels n.last; floor = dump_floor n r; rows = rows_of n view r }

-- what it knows after a dump; what is collected never falls
abbrev pub answered : Numbers → Known → Known
answered n r = record {
  wires = r.wires;
  id = n.id;
  last = seen_on r.wires.channels n.last;
  cpu = n.cpu;
  upto = max r.upto (reached_by n r);
  waits = r.again;
  again = false;
}

-- a Done, then a poll where one was asked for again
abbrev pub answer_by : ℕ → Numbers → View → Known → List (ℕ × Msg)
answer_by done n view r = (done, DoneMsg (done_of n view r)) ∷ (if r.again then (r.wires.poll, poll) ∷ [] else [])

-- a dump is taken where its ids can be unwrapped, and what they tell can be read
abbrev pub is_taken : Lengths → Dump → Known → Bool
is_taken sizes d r = has_wids sizes.bits d && (has_rooms sizes.bits r && is_read sizes.ring (numbers_told sizes.bits d r) d.view r)

-- The step, for one unit: what the choice c makes of it, and what is put.

-- a notice by the choice, or without one a sweep
abbrev pub is_asked : Option ℕ → Known → Bool
is_asked None r = true
is_asked (Some c) r = c == r.wires.notice

abbrev pub ask_by : Option ℕ → Known → Known
ask_by o r = cond (is_asked o r) (asked r) r

abbrev pub ask_puts : Option ℕ → Known → List (ℕ × Msg)
ask_puts o r = cond (is_asked o r) (poll_by r) []

abbrev pub takes_dump : Lengths → ℕ → Dump → Known → Bool
takes_dump sizes c d r = (c == r.wires.dump) && is_taken sizes d r

abbrev pub dump_by : Lengths → ℕ → Dump → Known → Known
dump_by sizes c d r = cond (takes_dump sizes c d r) (answered (numbers_told sizes.bits d r) r) r

abbrev pub dump_puts : Lengths → ℕ → ℕ → Dump → Known → List (ℕ × Msg)
dump_puts sizes done c d r = cond (takes_dump sizes c d r) (answer_by done (numbers_told sizes.bits d r) d.view r) []

-- The step.

abbrev pub with_units : ControlState → List Known → ControlState
with_units s rs = record { wires = s.wires; units = rs }

-- what all notices by a choice, or a sweep, do
abbrev pub asked_all : Option ℕ → ControlState → After ControlState Msg
asked_all o s = record { state = with_units s (map (ask_by o) s.units); puts = flat_map (ask_puts o) s.units }

-- the initiation of a number, with its wrapped id, in a version of the frame
abbrev pub initiation : ℕ → ℕ → ℕ → Msg
initiation bits version k = framed version (init_header (wid bits k)) no_packet

-- a message that its choice doesn't carry, and a dump that isn't taken, change nothing
abbrev pub control_take : ControlState → ℕ → Msg → After ControlState Msg
control_take s c (BeginMsg k) = record { state = s; puts = cond (c == s.wires.begin) (send_all (initiation s.wires.sizes.bits s.wires.version k) s.wires.inits) [] }
control_take s c NoticeMsg = asked_all (Some c) s
control_take s c (DumpMsg d) = record { state = with_units s (map (dump_by s.wires.sizes c d) s.units); puts = flat_map (dump_puts s.wires.sizes s.wires.done c d) s.units }
control_take s c _ = record { state = s; puts = [] }

-- each unit has a poll outstanding and again
abbrev pub is_swept : List Known → Bool
is_swept rs = list_all (λ r. r.waits && r.again) rs

abbrev pub control_act : ControlState → ℕ → Option (After ControlState Msg)
control_act s c = cond ((c == s.wires.sweep) && not (is_swept s.units)) (Some (asked_all None s)) None

abbrev pub control_rules : Rules ControlState Msg
control_rules = record { take = control_take; act = control_act }
