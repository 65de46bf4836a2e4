-- Trusted text for nodes, in part.
-- A unit's step.
--     unit_take s c m    what a unit makes of the message m that it takes by the choice c
-- Bytes on a stamped link that are no frame of its kinds, a stamp outside the window, and a message that its link doesn't carry, are
-- ignored.
use Rattle.std.specs.Prelude.{ℕ, ◌-◌, Bool, ◌==◌, if◌then◌else◌, List, [], ◌++◌, length, Option, Some, None, Result, Ok, Err}
use Rattle.sl_ids.specs.declared.wid.Wid.{Wid}
use Rattle.sl_machine.specs.Machine.{After, Rules, Counts, send_all}
use Rattle.sl_layout.specs.declared.actor.Sort.TheVariants.{ToHost, Cable as CableSort, Crossbar as CrossbarSort, Notice as NoticeSort, Dump as DumpSort}
use Rattle.sl_net.specs.declared.input.Packet.{Packet}
use Rattle.sl_wire.specs.declared.frame.Kind.{Kind}
use Rattle.sl_wire.specs.declared.frame.Kind.TheVariants.{Plain, Carried, Probe, Init as InitKind}
use Rattle.sl_wire.specs.declared.frame.Header.{Header}
use Rattle.sl_wire.specs.declared.frame.WireFault.{WireFault}
use Rattle.sl_wire.specs.declared.message.Msg.{Msg}
use Rattle.sl_wire.specs.declared.message.Msg.TheVariants.{Poll as PollMsg, Notice, Dump}
use Rattle.sl_wire.specs.Frames.{decoded, plain_header, carried_header, probe_header, no_packet}
use Rattle.sl_wire.specs.Carried.{bytes_on, frame_on, framed}
use Rattle.sl_unit.specs.declared.wires.Entrance.{Entrance}
use Rattle.sl_unit.specs.declared.wires.Entrance.TheVariants.{Host, Cable, Crossbar, Init, Poll}
use Rattle.sl_unit.specs.declared.wires.Way.{Way}
use Rattle.sl_unit.specs.declared.wires.Way.TheVariants.{All, Toward}
use Rattle.sl_unit.specs.declared.registers.Channel.{Channel}
use Rattle.sl_unit.specs.declared.registers.Channel.TheVariants.{Cpu, Upstream}
use Rattle.sl_unit.specs.declared.registers.RelativeStamp.{RelativeStamp}
use Rattle.sl_unit.specs.Wires.{Wires, entrance_at, outs, port_to}
use Rattle.sl_unit.specs.Registers.{Registers, more, read_on, is_near, counted, after_stamp, after_data, dump_of}

-- the fixed facts of the net and the snapshot table, and the registers
pub record UnitState : Type 0 where
  pub wires : Wires
  pub window : ℕ
  pub credits : ℕ
  pub registers : Registers

-- a message on each link of a way
abbrev pub send : Wires → Way → Msg → List (ℕ × Msg)
send w way m = send_all m (outs way w.exits)

-- what a unit sends on: a data packet and a probe, with its id and port
abbrev pub data_frame : Wires → Registers → Packet → Msg
data_frame w r p = framed w.version (carried_header r.id w.port) p

abbrev pub probe_frame : Wires → Registers → Msg
probe_frame w r = framed w.version (probe_header r.id w.port) no_packet

-- Plain frames.

abbrev pub if_plain : Kind → Packet → Option Packet
if_plain Plain p = Some p
if_plain _ p = None

abbrev pub plain_of : Result (ℕ × Header × Packet) WireFault → Option Packet
plain_of (Ok read) = if_plain read.1.kind read.2
plain_of (Err fault) = None

-- the packet of which the bytes are the plain frame
abbrev pub plain_packet : ℕ → List ℕ → Option Packet
plain_packet bits bytes = plain_of (decoded bits bytes)

-- The further ways of messages, with the id after them.

abbrev pub onward : Wires → Packet → Registers → Option ℕ → After Registers Msg
onward w p r None = record { state = record r { noroute = more r.noroute 1 }; puts = [] }
onward w p r (Some port) = record { state = r; puts = send w (Toward w.device port) (data_frame w r (record p { hops = p.hops - 1 })) }

-- an ingress unit sends a packet with hops left and a route to the egress unit of its next port, with one hop less
abbrev pub routed : Wires → Packet → Registers → After Registers Msg
routed w p r =
    if p.hops == 0
    then record { state = record r { expired = more r.expired 1 }; puts = [] }
    else onward w p r (port_to w p.dst)

-- and an initiation as a probe to each egress unit of the device
abbrev pub initiated : Wires → Registers → After Registers Msg
initiated w r = record { state = r; puts = send w (All CrossbarSort) (probe_frame w r) }

abbrev pub absorbed : Registers → After Registers Msg
absorbed r = record { state = r; puts = [] }

-- an egress unit sends a packet on its cable, or to its host without the stamp
abbrev pub passed : Wires → Packet → Registers → After Registers Msg
passed w p r = record { state = r; puts = send w (All CableSort) (data_frame w r p) ++ send w (All ToHost) (framed 1 plain_header p) }

-- and a probe from the ingress unit of its own port on its cable
abbrev pub probed : Wires → Bool → Registers → After Registers Msg
probed w own r = record { state = r; puts = if own then send w (All CableSort) (probe_frame w r) else [] }

-- Messages taken.

abbrev pub ignored : UnitState → After UnitState Msg
ignored s = record { state = s; puts = [] }

-- a notice where the last-seen id changes
abbrev pub notices : UnitState → RelativeStamp → List (ℕ × Msg)
notices s x = if x.ahead == 0 then [] else send s.wires (All NoticeSort) Notice

-- a stamped message, where `a` has the registers after it and its further way
abbrev pub stamped : UnitState → RelativeStamp → After Registers Msg → After UnitState Msg
stamped s x a = if is_near s.window x then record { state = record s { registers = a.state }; puts = a.puts ++ notices s x } else ignored s

abbrev pub read : UnitState → Channel → Wid → RelativeStamp
read s channel stamp = read_on s.wires.bits channel stamp s.registers

-- a frame from the host: a plain one is a data packet without a stamp
abbrev pub from_host : UnitState → Option Packet → After UnitState Msg
from_host s None = record { state = record s { registers = record s.registers { bad = more s.registers.bad 1 } }; puts = [] }
from_host s (Some p) = let a = routed s.wires p (counted p.len s.registers) in record { state = record s { registers = a.state }; puts = a.puts }

abbrev pub of_host : UnitState → Option (List ℕ) → After UnitState Msg
of_host s (Some bytes) = from_host s (plain_packet s.wires.bits bytes)
of_host s None = ignored s

-- a data packet or a probe from the cable
abbrev pub cable_data : UnitState → ℕ → Packet → RelativeStamp → After UnitState Msg
cable_data s i p x = stamped s x (routed s.wires p (after_data s.credits i x p s.registers))

abbrev pub cable_probe : UnitState → ℕ → RelativeStamp → After UnitState Msg
cable_probe s i x = stamped s x (absorbed (after_stamp (Upstream i) x s.registers))

abbrev pub by_cable : ℕ → UnitState → Kind → Wid → Packet → After UnitState Msg
by_cable i s Carried stamp p = cable_data s i p (read s (Upstream i) stamp)
by_cable i s Probe stamp p = cable_probe s i (read s (Upstream i) stamp)
by_cable i s _ stamp p = ignored s

-- a data packet or a probe from an ingress unit
abbrev pub crossbar_data : UnitState → ℕ → Packet → RelativeStamp → After UnitState Msg
crossbar_data s i p x = stamped s x (passed s.wires p (after_data s.credits i x p s.registers))

abbrev pub crossbar_probe : UnitState → ℕ → Bool → RelativeStamp → After UnitState Msg
crossbar_probe s i own x = stamped s x (probed s.wires own (after_stamp (Upstream i) x s.registers))

abbrev pub by_crossbar : ℕ → Bool → UnitState → Kind → Wid → Packet → After UnitState Msg
by_crossbar i own s Carried stamp p = crossbar_data s i p (read s (Upstream i) stamp)
by_crossbar i own s Probe stamp p = crossbar_probe s i own (read s (Upstream i) stamp)
by_crossbar i own s _ stamp p = ignored s

-- an initiation
abbrev pub initiation : UnitState → RelativeStamp → After UnitState Msg
initiation s x = stamped s x (initiated s.wires (after_stamp Cpu x s.registers))

abbrev pub by_init : UnitState → Kind → Wid → Packet → After UnitState Msg
by_init s InitKind stamp p = initiation s (read s Cpu stamp)
by_init s _ stamp p = ignored s

-- a frame on a stamped link
abbrev pub of_frame : UnitState → (Kind → Wid → Packet → After UnitState Msg) → Option (Header × Packet) → After UnitState Msg
of_frame s taken (Some f) = taken f.0.kind f.0.id f.1
of_frame s taken None = ignored s

abbrev pub dumped : UnitState → After UnitState Msg
dumped s = record { state = s; puts = send s.wires (All DumpSort) (Dump (dump_of s.registers)) }

abbrev pub take_at : Entrance → UnitState → Msg → After UnitState Msg
take_at Host s m = of_host s (bytes_on m)
take_at (Cable i) s m = of_frame s (by_cable i s) (frame_on s.wires.bits m)
take_at (Crossbar i own) s m = of_frame s (by_crossbar i own s) (frame_on s.wires.bits m)
take_at Init s m = of_frame s (by_init s) (frame_on s.wires.bits m)
take_at Poll s (PollMsg _) = dumped s
take_at _ s m = ignored s

abbrev pub unit_take : UnitState → ℕ → Msg → After UnitState Msg
unit_take s c m = take_at (entrance_at s.wires c) s m

-- a unit has no actions
abbrev pub unit_act : UnitState → ℕ → Option (After UnitState Msg)
unit_act s action = None

abbrev pub unit_rules : Rules UnitState Msg
unit_rules = record { take = unit_take; act = unit_act }

abbrev pub counts_of : Wires → Counts
counts_of w = record { ins = length w.entrances; outs = length w.exits; actions = w.actions }
