-- Trusted text.
-- What an actor puts in a step, by its kind. a or u is the actor's number and h its history before the step.
--     puts_of     where it takes the message m by the choice c from the link l
--     action      where it does its n-th own action, or None where its guard fails
use Rattle.std.specs.Prelude.{ℕ, suc, zero, ◌-◌, max, Bool, true, false, not, List, [], ◌∷◌, ◌++◌, map, filter, flat_map, length, ◌==◌, if◌then◌else◌, Option, Some, None, slice_get, unwrap_or, option_map}
use Rattle.sl_layout.specs.declared.actor.Side.{Side}
use Rattle.sl_layout.specs.declared.actor.Side.TheVariants.{Ingress, Egress}
use Rattle.sl_layout.specs.declared.actor.UnitId.{UnitId}
use Rattle.sl_layout.specs.declared.actor.ActorId.{ActorId}
use Rattle.sl_layout.specs.declared.actor.ActorId.TheVariants.{Observer, Control, Unit as OfUnit, Host as OfHost}
use Rattle.sl_layout.specs.declared.actor.Sort.TheVariants.{FromHost, ToHost, Cable, Crossbar, Init, Notice, Dump, Begin, Done}
use Rattle.sl_net.specs.declared.input.Packet.{Packet}
use Rattle.sl_layout.specs.Net.{Net, same_actor, ingress, egress, actor_of, link_of, links_out, action_choice, unit_place}
use Rattle.sl_layout.specs.Serving.{ServedUnit, served}
use Rattle.sl_model.specs.declared.message.Message.{Message}
use Rattle.sl_model.specs.declared.message.Message.TheVariants.{Host as HostMsg, Data, Probe as ProbeMsg, Init as InitMsg, Poll as PollMsg, Notice as NoticeMsg, Dump as DumpMsg, Begin as BeginMsg, Done as DoneMsg}
use Rattle.sl_model.specs.declared.message.Put.{Put}
use Rattle.sl_model.specs.History.{History, stamp_of, id, last, taken}
use Rattle.sl_model.specs.Frame.{plain_frame, packet_of}
use Rattle.sl_route.specs.Route.{next_port}
use Rattle.sl_model.specs.Setup.{Setup, frames_of}
use Rattle.sl_model.specs.Knowledge.{is_outstanding, is_again, is_swept, issued, can_issue, can_resend}

abbrev pub send : Message → ℕ → Put
send m l = record { link = l; message = m }

abbrev pub send_all : Message → List ℕ → List Put
send_all m ls = map (send m) ls

-- Units. d is the unit's device, p its port, k its id after the step: each stamp that it puts is k.

abbrev pub crossbar_to : Net → ℕ → ℕ → ℕ → List ℕ
crossbar_to net u d port = filter (λ l. same_actor (actor_of net (link_of net l).to) (egress d port)) (links_out net u Crossbar)

abbrev pub onward : Net → ℕ → ℕ → ℕ → Packet → Option ℕ → List Put
onward net u d k q None = []
onward net u d k q (Some port) = send_all (Data k q) (crossbar_to net u d port)

-- a packet with hops left and a route goes to the egress unit of its next port, with one hop less
abbrev pub route : Net → ℕ → ℕ → ℕ → Packet → List Put
route net u d k q = if q.hops == 0 then [] else onward net u d k (record q { hops = q.hops - 1 }) (next_port net.parts d q.dst)

abbrev pub route_frame : Net → ℕ → ℕ → ℕ → Option Packet → List Put
route_frame net u d k None = []
route_frame net u d k (Some q) = route net u d k q

-- an initiation goes as a probe to each egress unit of the device
abbrev pub ingress_puts : Net → ℕ → ℕ → ℕ → Message → List Put
ingress_puts net u d k (HostMsg bytes) = route_frame net u d k (packet_of bytes)
ingress_puts net u d k (Data s q) = route net u d k q
ingress_puts net u d k (InitMsg s) = send_all (ProbeMsg k) (links_out net u Crossbar)
ingress_puts net u d k _ = []

-- the link comes from the ingress unit of the same port
abbrev pub is_own_port : Net → ℕ → ℕ → ℕ → Bool
is_own_port net d p l = same_actor (actor_of net (link_of net l).from) (ingress d p)

-- a packet goes on the cable, or to the host without its stamp; a probe from its own port goes on the cable
abbrev pub egress_puts : Net → ℕ → ℕ → ℕ → ℕ → ℕ → Message → List Put
egress_puts net u d p k l (Data s q) = send_all (Data k q) (links_out net u Cable) ++ send_all (HostMsg (plain_frame q)) (links_out net u ToHost)
egress_puts net u d p k l (ProbeMsg s) = if is_own_port net d p l then send_all (ProbeMsg k) (links_out net u Cable) else []
egress_puts net u d p k l _ = []

abbrev pub side_puts : Net → ℕ → UnitId → Side → ℕ → ℕ → Message → List Put
side_puts net u i Ingress k l m = ingress_puts net u i.device k m
side_puts net u i Egress k l m = egress_puts net u i.device i.port k l m

-- a notice where the last-seen number of the channel changes
abbrev pub notice_puts : Net → ℕ → ℕ → Option ℕ → List Put
notice_puts net u before None = []
notice_puts net u before (Some s) = if before == s then [] else send_all NoticeMsg (links_out net u Notice)

-- the answer to a poll, where the unit has made n steps with this one
abbrev pub dump_puts : Net → ℕ → ℕ → Message → List Put
dump_puts net u n PollMsg = send_all (DumpMsg n) (links_out net u Dump)
dump_puts net u n _ = []

-- the id of a unit after it took the message
abbrev pub id_after : Message → History → ℕ
id_after m h = max (unwrap_or (stamp_of m) 0) (id h)

abbrev pub unit_puts : Net → ℕ → UnitId → History → ℕ → ℕ → Message → List Put
unit_puts net u i h c l m = side_puts net u i i.side (id_after m h) l m ++ (notice_puts net u (last c h) (stamp_of m) ++ dump_puts net u (suc (length h)) m)

-- Control planes.

-- a poll to the unit, where none is outstanding
abbrev pub poll_puts : ServedUnit → History → List Put
poll_puts v h = if is_outstanding v h then [] else send PollMsg v.poll ∷ []

-- a Done, then a poll where a notice or a sweep came again
abbrev pub dump_answer : Net → ℕ → History → ℕ → ServedUnit → List Put
dump_answer net a h n v = send_all (DoneMsg (unit_place net v.unit) n) (links_out net a Done) ++ (if is_again (action_choice net a) v h then send PollMsg v.poll ∷ [] else [])

abbrev pub control_puts : Net → ℕ → History → ℕ → Message → List Put
control_puts net a h c (BeginMsg k) = send_all (InitMsg k) (links_out net a Init)
control_puts net a h c NoticeMsg = flat_map (λ v. if c == v.notice then poll_puts v h else []) (served net a)
control_puts net a h c (DumpMsg n) = flat_map (λ v. if c == v.dump then dump_answer net a h n v else []) (served net a)
control_puts net a h c _ = []

-- Messages taken. The observer and hosts put nothing.

abbrev pub puts_of : Setup → ℕ → ActorId → History → ℕ → ℕ → Message → List Put
puts_of s a (Control d) h c l m = control_puts s.net a h c m
puts_of s a (OfUnit i) h c l m = unit_puts s.net a i h c l m
puts_of s a Observer h c l m = []
puts_of s a (OfHost i) h c l m = []

-- Own actions. f is the floor.

abbrev pub begin_all : Net → ℕ → List Put
begin_all net k = send_all (BeginMsg k) (links_out net 0 Begin)

abbrev pub guarded : Bool → List Put → Option (List Put)
guarded false ps = None
guarded true ps = Some ps

-- issue begins the next number; resend begins the last one again; sweep polls each unit; inject sends the next frame, where one is left
abbrev pub action : Setup → ℕ → ℕ → ActorId → History → ℕ → Option (List Put)
action s f a Observer h zero = guarded (can_issue s f h) (begin_all s.net (suc (issued s.net h)))
action s f a Observer h (suc zero) = guarded (can_resend s f h) (begin_all s.net (issued s.net h))
action s f a (Control d) h zero = guarded (not (is_swept s.net a h)) (flat_map (λ v. poll_puts v h) (served s.net a))
action s f a (OfHost i) h zero = option_map (λ bytes. send_all (HostMsg bytes) (links_out s.net a FromHost)) (slice_get (frames_of s i) (taken (action_choice s.net a) h))
action s f a _ h _ = None
