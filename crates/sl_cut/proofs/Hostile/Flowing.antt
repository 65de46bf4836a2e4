-- What actors put for a message that they take, and by their own actions, but for dumps, Dones and what hosts send.
--     IsFlowing m      no dump, no Done and no bad frame
use Rattle.std.proofs.Common.{◌≡◌, ℕ, ◌-◌, List, [], ◌∷◌, Option, Some, None}
use Rattle.std.specs.Prelude.{true, false, Bool, ◌==◌, if◌then◌else◌, is_none}
use Rattle.sl_layout.specs.declared.actor.UnitId.{UnitId}
use Rattle.sl_layout.specs.declared.actor.Side.{Side}
use Rattle.sl_layout.specs.declared.actor.Side.TheVariants.{Ingress, Egress}
use Rattle.sl_layout.specs.declared.actor.Sort.TheVariants.{ToHost, Cable, Crossbar, Notice}
use Rattle.sl_layout.specs.Net.{Net, links_out}
use Rattle.sl_layout.specs.Serving.{ServedUnit}
use Rattle.sl_net.specs.declared.input.Packet.{Packet}
use Rattle.sl_route.specs.Route.{next_port}
use Rattle.sl_parts.specs.Lists.{Each}
use Rattle.sl_parts.proofs.Lists.{each-append}
use Rattle.sl_model.specs.declared.message.Message.{Message}
use Rattle.sl_model.specs.declared.message.Message.TheVariants.{Host as HostMsg, Data, Probe as ProbeMsg, Init as InitMsg, Poll as PollMsg, Notice as NoticeMsg, Dump as DumpMsg, Done as DoneMsg}
use Rattle.sl_model.specs.declared.message.Put.{Put}
use Rattle.sl_model.specs.Frame.{plain_frame, packet_of}
use Rattle.sl_model.specs.History.{History}
use Rattle.sl_model.specs.Knowledge.{is_outstanding}
use Rattle.sl_model.specs.Puts.{send, send_all, crossbar_to, onward, route, route_frame, ingress_puts, is_own_port, egress_puts, side_puts, notice_puts, poll_puts}
use Rattle.sl_cut.proofs.Hostile.Frames.{plain-packet}

abbrev pub IsFlowing : Message → Type 0
IsFlowing (HostMsg bytes) = is_none (packet_of bytes) ≡ false
IsFlowing (DumpMsg n) = ⊥
IsFlowing (DoneMsg place n) = ⊥
IsFlowing _ = Unit {0}

abbrev pub AreFlowing : List Put → Type 0
AreFlowing ps = Each (λ p. IsFlowing p.message) ps

pub flow-all : (m : Message) → IsFlowing m → (ls : List ℕ) → AreFlowing (send_all m ls)
flow-all m e [] = tt
flow-all m e (l ∷ ls) = (e, flow-all m e ls)

pub flow-if : (b : Bool) (ps qs : List Put) → AreFlowing ps → AreFlowing qs → AreFlowing (if b then ps else qs)
flow-if true ps qs e f = e
flow-if false ps qs e f = f

flow-onward : (net : Net) (u d k : ℕ) (q : Packet) (o : Option ℕ) → AreFlowing (onward net u d k q o)
flow-onward net u d k q None = tt
flow-onward net u d k q (Some port) = flow-all (Data k q) tt (crossbar_to net u d port)

flow-route : (net : Net) (u d k : ℕ) (q : Packet) → AreFlowing (route net u d k q)
flow-route net u d k q = flow-if (q.hops == 0) [] _ tt (flow-onward net u d k (record q { hops = q.hops - 1 }) (next_port net.parts d q.dst))

flow-frame : (net : Net) (u d k : ℕ) (o : Option Packet) → AreFlowing (route_frame net u d k o)
flow-frame net u d k None = tt
flow-frame net u d k (Some q) = flow-route net u d k q

flow-ingress : (net : Net) (u d k : ℕ) (m : Message) → AreFlowing (ingress_puts net u d k m)
flow-ingress net u d k (HostMsg bytes) = flow-frame net u d k (packet_of bytes)
flow-ingress net u d k (Data s q) = flow-route net u d k q
flow-ingress net u d k (InitMsg s) = flow-all (ProbeMsg k) tt (links_out net u Crossbar)
flow-ingress net u d k _ = tt

flow-egress : (net : Net) (u d p k l : ℕ) (m : Message) → AreFlowing (egress_puts net u d p k l m)
flow-egress net u d p k l (Data s q) = each-append (λ p. IsFlowing p.message) _ _ (flow-all (Data k q) tt (links_out net u Cable)) (flow-all (HostMsg (plain_frame q)) (plain-packet q) (links_out net u ToHost))
flow-egress net u d p k l (ProbeMsg s) = flow-if (is_own_port net d p l) _ [] (flow-all (ProbeMsg k) tt (links_out net u Cable)) tt
flow-egress net u d p k l _ = tt

pub flow-side : (net : Net) (u : ℕ) (i : UnitId) (side : Side) (k l : ℕ) (m : Message) → AreFlowing (side_puts net u i side k l m)
flow-side net u i Ingress k l m = flow-ingress net u i.device k m
flow-side net u i Egress k l m = flow-egress net u i.device i.port k l m

pub flow-notice : (net : Net) (u before : ℕ) (o : Option ℕ) → AreFlowing (notice_puts net u before o)
flow-notice net u before None = tt
flow-notice net u before (Some s) = flow-if (before == s) [] _ tt (flow-all NoticeMsg tt (links_out net u Notice))

pub flow-poll : (v : ServedUnit) (h : History) → AreFlowing (poll_puts v h)
flow-poll v h = flow-if (is_outstanding v h) [] (send PollMsg v.poll ∷ []) tt (tt, tt)
