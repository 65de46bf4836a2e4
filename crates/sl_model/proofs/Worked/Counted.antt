-- Worked rows that need no text, by computation.
use Rattle.std.specs.Prelude.{◌≡◌, ℕ, List, [], ◌∷◌, map, length, Some, None, refl}
use Rattle.sl_net.specs.declared.input.Packet.{Packet}
use Rattle.sl_parts.specs.Parts.{Parts}
use Rattle.sl_layout.specs.Net.{units, hosts}
use Rattle.sl_model.specs.Frame.{plain_frame, packet_of}
use Rattle.sl_route.specs.Route.{hops, next_port}
use Rattle.sl_model.specs.World.{Entry}
use Rattle.sl_model.specs.Schedule.{pass, settling_pass}
use Rattle.sl_model.proofs.Worked.Nets.{net_a, net_b, net_c, setup, book_of, no_loss}

-- The links, actors and passes of the first net.

pub links : length net_a.links ≡ 24
links = refl

pub senders : map (λ l. l.from) net_a.links ≡ 1 ∷ 0 ∷ 2 ∷ 2 ∷ 3 ∷ 3 ∷ 4 ∷ 4 ∷ 5 ∷ 5 ∷ 6 ∷ 1 ∷ 1 ∷ 2 ∷ 4 ∷ 1 ∷ 7 ∷ 1 ∷ 1 ∷ 2 ∷ 4 ∷ 1 ∷ 3 ∷ 5 ∷ []
senders = refl

pub unit_numbers : units net_a ≡ 2 ∷ 3 ∷ 4 ∷ 5 ∷ []
unit_numbers = refl

pub host_numbers : hosts net_a ≡ 6 ∷ 7 ∷ []
host_numbers = refl

pub pass_length : length (pass net_a) ≡ 26
pass_length = refl

pub settling_pass_length : length (settling_pass net_a) ≡ 27
settling_pass_length = refl

-- The plain frame of a packet, and the packet of a plain frame; with a reserved byte of 1 it is none.

pub worked_packet : Packet
worked_packet = record { src = 0; dst = 1; seq = 0; len = 100; hops = 8 }

pub frame_ending : ℕ → List ℕ
frame_ending reserved = 0 ∷ 0 ∷ 0 ∷ 0 ∷ 0 ∷ 0 ∷ 0 ∷ 1 ∷ 0 ∷ 0 ∷ 0 ∷ 0 ∷ 0 ∷ 100 ∷ 8 ∷ 1 ∷ reserved ∷ 0 ∷ 0 ∷ 0 ∷ 0 ∷ 0 ∷ 0 ∷ 0 ∷ []

pub worked_frame : plain_frame worked_packet ≡ frame_ending 0
unfolding plain_frame worked_packet frame_ending
worked_frame = refl

pub frame_packet : packet_of (frame_ending 0) ≡ Some worked_packet
unfolding packet_of worked_packet frame_ending
frame_packet = refl

pub bad_frame : packet_of (frame_ending 1) ≡ None
unfolding packet_of frame_ending
bad_frame = refl

-- Routes between two devices, and without the cable. The hosts are one on each, and a host that isn't there.

pub uncabled : Parts
uncabled = record net_c.parts { cables = [] }

pub routes_a : map (next_port net_c.parts 0) (0 ∷ 1 ∷ 2 ∷ []) ≡ Some 0 ∷ Some 1 ∷ None ∷ []
unfolding next_port
routes_a = refl

pub routes_b : map (next_port net_c.parts 1) (0 ∷ 1 ∷ 2 ∷ []) ≡ Some 0 ∷ Some 1 ∷ None ∷ []
unfolding next_port
routes_b = refl

pub hops_a : map (hops net_c.parts 0) (0 ∷ 1 ∷ 2 ∷ []) ≡ Some 0 ∷ Some 1 ∷ None ∷ []
unfolding hops
hops_a = refl

pub hops_b : map (hops net_c.parts 1) (0 ∷ 1 ∷ 2 ∷ []) ≡ Some 1 ∷ Some 0 ∷ None ∷ []
unfolding hops
hops_b = refl

pub uncabled_a : map (next_port uncabled 0) (0 ∷ 1 ∷ []) ≡ Some 0 ∷ None ∷ []
unfolding next_port uncabled
uncabled_a = refl

pub uncabled_b : map (hops uncabled 1) (0 ∷ 1 ∷ []) ≡ None ∷ Some 0 ∷ []
unfolding hops uncabled
uncabled_b = refl

-- The book of one snapshot on one device with one port: issue, begin, the initiation, its probe, two notices, two polls, two dumps, two Dones.
-- A script whose entries are all idle changes nothing.

pub trace_book : List Entry
trace_book = (0, 1) ∷ (1, 0) ∷ (2, 1) ∷ (3, 0) ∷ (1, 1) ∷ (1, 3) ∷ (2, 2) ∷ (3, 1) ∷ (1, 2) ∷ (1, 4) ∷ (0, 0) ∷ (0, 0) ∷ []

pub trace : book_of (setup net_b 3 1 0 []) no_loss [] ≡ trace_book
unfolding trace_book
trace = refl

pub idle_script : book_of (setup net_b 3 1 0 []) no_loss ((2, 0) ∷ (3, 0) ∷ (0, 2) ∷ (99, 1) ∷ []) ≡ trace_book
unfolding trace_book
idle_script = refl
