-- What holds of the messages of hosts holds of all messages; messages pass, and turns are taken, as the laws of these say.
use Rattle.std.proofs.Common.{◌≡◌, ℕ, zero, suc, ◌-◌, List, [], ◌∷◌, ◌++◌, length, refl, sym, ap, subst, ◌∙◌, Option, Some, None, inl, inr, ◌+◌, ◌*◌, ◌<◌, ◌^◌, arith, ◌≤◌}
use Rattle.std.specs.Prelude.{◌⊎◌, true, false, Bool, not, ◌==◌, if◌then◌else◌, nat_eq, map, filter, flat_map, slice_get, option_map, slice_index, unwrap_or, option_and_then, ◌/◌, ◌%◌}
use Rattle.std.proofs.lemmas.Bool.Decides.{eqb_tells}
use Rattle.sl_layout.specs.declared.actor.Side.{Side}
use Rattle.sl_layout.specs.declared.actor.Side.TheVariants.{Ingress, Egress}
use Rattle.sl_layout.specs.declared.actor.UnitId.{UnitId}
use Rattle.sl_layout.specs.declared.actor.ActorId.{ActorId}
use Rattle.sl_layout.specs.declared.actor.ActorId.TheVariants.{Observer, Control, Unit as OfUnit, Host as OfHost}
use Rattle.sl_layout.specs.declared.actor.Sort.TheVariants.{FromHost, ToHost, Cable, Crossbar, Init, Notice, Dump, Begin, Done}
use Rattle.sl_net.specs.declared.input.Flow.{Flow}
use Rattle.sl_net.specs.declared.input.Packet.{Packet}
use Rattle.sl_net.specs.declared.input.RawPart.{RawPart}
use Rattle.sl_layout.specs.Net.{Net, actor_of, link_of, links_out, action_choice, unit_place, links_into}
use Rattle.sl_layout.specs.Serving.{ServedUnit, served}
use Rattle.sl_flow.specs.Flow.{flow_packets, packets_of, packet_in}
use Rattle.sl_route.specs.Route.{next_port}
use Rattle.sl_model.specs.declared.message.Message.{Message}
use Rattle.sl_model.specs.declared.message.Message.TheVariants.{Host as HostMsg, Data, Probe as ProbeMsg, Init as InitMsg, Poll as PollMsg, Notice as NoticeMsg, Dump as DumpMsg, Begin as BeginMsg, Done as DoneMsg}
use Rattle.sl_model.specs.declared.message.Put.{Put}
use Rattle.sl_model.specs.declared.message.Step.{Step}
use Rattle.sl_parts.specs.Lists.{Each, Member}
use Rattle.sl_parts.proofs.Lists.{each-append, each-map, each-imp, each-flat, each-of, each-filter, each-below, each-back}
use Rattle.sl_model.specs.History.{History, World, Losses, history, last, taken, put, on_link, stamp_of, dump_of, takes}
use Rattle.sl_model.specs.Frame.{plain_frame, packet_of, number_at, is_plain, packet_at}
use Rattle.sl_model.specs.Setup.{Setup, frames_of}
use Rattle.sl_model.specs.Knowledge.{is_outstanding, is_again, is_swept, issued, can_issue, can_resend}
use Rattle.sl_model.specs.Puts.{send, send_all, crossbar_to, onward, route, route_frame, ingress_puts, is_own_port, egress_puts, side_puts, notice_puts, dump_puts, id_after, poll_puts, dump_answer, control_puts, puts_of, begin_all, guarded, action}
use Rattle.sl_model.specs.World.{Entry, start, turn, world, carried, sender}
use Rattle.sl_model.specs.Turns.{Takes, Acts, TakesTurns}
use Rattle.sl_model.proofs.Worlds.Turns.{kept_by_run, Steps, turn-cases, start-empty, run-append, next-within, taken-step, taken-this, taken-other}
use Rattle.sl_model.proofs.Worlds.FifoRuns.{next-view, fifo_run, fifo_run-turn}
use Rattle.sl_model.proofs.Worlds.Stamps.{each-on-link, each-lost, each-taken, put-fits, unit-dumps, PutBy, observer-acts, step-said}
use Rattle.sl_model.proofs.Saved.Windows.{world-length}
use Rattle.sl_parts.specs.Parts.{below}
use Rattle.sl_model.specs.Counting.{counted_in, counted}
use Rattle.sl_model.specs.Short.{TakesShort, SendsShort, IsShort}
use Rattle.sl_model.specs.Words.{listed, Rises, numbers}
use Rattle.sl_model.specs.Fields.{HasFields, FlowHasFields, AreBytes, SendsFields, MessageHasFields}
use Rattle.sl_model.specs.Made.{IsMade, IsFifoRun, Took, Acted}
use Rattle.sl_model.specs.Window.{on_way}
use Rattle.sl_model.specs.Passing.{PassesMessages}
use Rattle.sl_model.proofs.Worlds.Numbers.{rises-le, put-rises, heard-takes}
use Rattle.sl_model.proofs.Cuts.Collected.{on-way-is}
use Rattle.sl_model.specs.Fit.{fits_link}
use Rattle.sl_model.proofs.Worlds.Steps.{history_size}
use Rattle.sl_model.proofs.Lists.Sizes.{world_size, ingress_size}
use Rattle.sl_model.proofs.Worlds.Trails.{run-kept}
use Rattle.sl_model.proofs.Worlds.Legal.{kept_legal, legal_append}
use Rattle.sl_model.proofs.Cuts.Bounds.{extends-turn, each-get}
use Rattle.sl_model.proofs.Worlds.ReachedWorlds.{choice-of-step, step-grows}

pub record IsCarried (P : Message → Type 0) : Type 0 where
  -- of messages without packets
  pub probe : (k : ℕ) → P (ProbeMsg k)
  pub init : (k : ℕ) → P (InitMsg k)
  pub poll : P PollMsg
  pub notice : P NoticeMsg
  pub dump : (n : ℕ) → P (DumpMsg n)
  pub begin : (k : ℕ) → P (BeginMsg k)
  pub done : (place n : ℕ) → P (DoneMsg place n)
  -- of the packet of a frame, with any stamp, and one hop less
  pub framed : (k : ℕ) (bytes : List ℕ) (q : Packet) → P (HostMsg bytes) → packet_of bytes ≡ Some q → P (Data k q)
  pub stamped : (k s : ℕ) (q : Packet) → P (Data s q) → P (Data k q)
  pub onward : (k : ℕ) (q : Packet) → P (Data k q) → P (Data k (record q { hops = q.hops - 1 }))
  -- and of its frame
  pub plain : (k : ℕ) (q : Packet) → P (Data k q) → P (HostMsg (plain_frame q))

abbrev pub IsTaken : (Message → Type 0) → Option Message → Type 0
IsTaken P None = Unit {0}
IsTaken P (Some m) = P m

-- Puts.

abbrev PutsHold : (Message → Type 0) → List Put → Type 0
PutsHold P ps = Each (λ p. P p.message) ps

sends : (P : Message → Type 0) (m : Message) (ls : List ℕ) → P m → PutsHold P (send_all m ls)
sends P m ls h = each-map (λ p. P p.message) (send m) ls (each-of (λ l. P m) ls (λ l k. h))

both : (P : Message → Type 0) (xs ys : List Put) → PutsHold P xs → PutsHold P ys → PutsHold P (xs ++ ys)
both P xs ys a b = each-append (λ p. P p.message) xs ys a b

when : (P : Message → Type 0) (b : Bool) (xs : List Put) → PutsHold P xs → PutsHold P (if b then xs else [])
when P true xs h = h
when P false xs h = tt

unless : (P : Message → Type 0) (b : Bool) (xs : List Put) → PutsHold P xs → PutsHold P (if b then [] else xs)
unless P true xs h = tt
unless P false xs h = h

onward-holds : (P : Message → Type 0) (net : Net) (u d k : ℕ) (q : Packet) (o : Option ℕ) → P (Data k q) → PutsHold P (onward net u d k q o)
onward-holds P net u d k q None l = tt
onward-holds P net u d k q (Some port) l = sends P (Data k q) (crossbar_to net u d port) l

route-holds : (P : Message → Type 0) (net : Net) (u d k : ℕ) (q : Packet) → IsCarried P → P (Data k q) → PutsHold P (route net u d k q)
route-holds P net u d k q c l = unless P (q.hops == 0) (onward net u d k (record q { hops = q.hops - 1 }) (next_port net.parts d q.dst)) (onward-holds P net u d k (record q { hops = q.hops - 1 }) (next_port net.parts d q.dst) (c.onward k q l))

frame-holds : (P : Message → Type 0) (net : Net) (u d k : ℕ) (bytes : List ℕ) → IsCarried P → P (HostMsg bytes) → PutsHold P (route_frame net u d k (packet_of bytes))
frame-holds P net u d k bytes c l = of_packet (packet_of bytes) refl
  where
    of_packet : (o : Option Packet) → packet_of bytes ≡ o → PutsHold P (route_frame net u d k o)
    of_packet None e = tt
    of_packet (Some q) e = route-holds P net u d k q c (c.framed k bytes q l e)

ingress-holds : (P : Message → Type 0) (net : Net) (u d k : ℕ) (m : Message) → IsCarried P → P m → PutsHold P (ingress_puts net u d k m)
ingress-holds P net u d k (HostMsg bytes) c l = frame-holds P net u d k bytes c l
ingress-holds P net u d k (Data s q) c l = route-holds P net u d k q c (c.stamped k s q l)
ingress-holds P net u d k (InitMsg s) c l = sends P (ProbeMsg k) (links_out net u Crossbar) (c.probe k)
ingress-holds P net u d k _ c l = tt

egress-holds : (P : Message → Type 0) (net : Net) (u d p k l : ℕ) (m : Message) → IsCarried P → P m → PutsHold P (egress_puts net u d p k l m)
egress-holds P net u d p k l (Data s q) c h = both P (send_all (Data k q) (links_out net u Cable)) (send_all (HostMsg (plain_frame q)) (links_out net u ToHost))
    (sends P (Data k q) (links_out net u Cable) (c.stamped k s q h)) (sends P (HostMsg (plain_frame q)) (links_out net u ToHost) (c.plain s q h))
egress-holds P net u d p k l (ProbeMsg s) c h = when P (is_own_port net d p l) (send_all (ProbeMsg k) (links_out net u Cable)) (sends P (ProbeMsg k) (links_out net u Cable) (c.probe k))
egress-holds P net u d p k l _ c h = tt

side-holds : (P : Message → Type 0) (net : Net) (u : ℕ) (i : UnitId) (side : Side) (k l : ℕ) (m : Message) → IsCarried P → P m → PutsHold P (side_puts net u i side k l m)
side-holds P net u i Ingress k l m c h = ingress-holds P net u i.device k m c h
side-holds P net u i Egress k l m c h = egress-holds P net u i.device i.port k l m c h

notice-holds : (P : Message → Type 0) (net : Net) (u before : ℕ) (o : Option ℕ) → IsCarried P → PutsHold P (notice_puts net u before o)
notice-holds P net u before None c = tt
notice-holds P net u before (Some s) c = unless P (before == s) (send_all NoticeMsg (links_out net u Notice)) (sends P NoticeMsg (links_out net u Notice) c.notice)

dump-holds : (P : Message → Type 0) (net : Net) (u n : ℕ) (m : Message) → IsCarried P → PutsHold P (dump_puts net u n m)
dump-holds P net u n PollMsg c = sends P (DumpMsg n) (links_out net u Dump) (c.dump n)
dump-holds P net u n _ c = tt

poll-holds : (P : Message → Type 0) (v : ServedUnit) (h : History) → IsCarried P → PutsHold P (poll_puts v h)
poll-holds P v h c = unless P (is_outstanding v h) (send PollMsg v.poll ∷ []) (c.poll, tt)

answer-holds : (P : Message → Type 0) (net : Net) (a : ℕ) (h : History) (n : ℕ) (v : ServedUnit) → IsCarried P → PutsHold P (dump_answer net a h n v)
answer-holds P net a h n v c = both P (send_all (DoneMsg (unit_place net v.unit) n) (links_out net a Done)) (if is_again (action_choice net a) v h then send PollMsg v.poll ∷ [] else [])
    (sends P (DoneMsg (unit_place net v.unit) n) (links_out net a Done) (c.done (unit_place net v.unit) n)) (when P (is_again (action_choice net a) v h) (send PollMsg v.poll ∷ []) (c.poll, tt))

all-served : (P : Message → Type 0) (f : ServedUnit → List Put) (vs : List ServedUnit) → ((v : ServedUnit) → PutsHold P (f v)) → PutsHold P (flat_map f vs)
all-served P f vs h = each-flat (λ p. P p.message) f vs (each-of (λ v. PutsHold P (f v)) vs (λ v m. h v))

control-holds : (P : Message → Type 0) (net : Net) (a : ℕ) (h : History) (c : ℕ) (m : Message) → IsCarried P → PutsHold P (control_puts net a h c m)
control-holds P net a h c (BeginMsg k) r = sends P (InitMsg k) (links_out net a Init) (r.init k)
control-holds P net a h c NoticeMsg r = all-served P (λ v. if c == v.notice then poll_puts v h else []) (served net a) (λ v. when P (c == v.notice) (poll_puts v h) (poll-holds P v h r))
control-holds P net a h c (DumpMsg n) r = all-served P (λ v. if c == v.dump then dump_answer net a h n v else []) (served net a) (λ v. when P (c == v.dump) (dump_answer net a h n v) (answer-holds P net a h n v r))
control-holds P net a h c _ r = tt

taken-holds : (P : Message → Type 0) (s : Setup) (a : ℕ) (i : ActorId) (h : History) (c l : ℕ) (m : Message) → IsCarried P → P m → PutsHold P (puts_of s a i h c l m)
taken-holds P s a Observer h c l m r t = tt
taken-holds P s a (Control d) h c l m r t = control-holds P s.net a h c m r
taken-holds P s a (OfHost i) h c l m r t = tt
taken-holds P s a (OfUnit i) h c l m r t = both P (side_puts s.net a i i.side (id_after m h) l m) (notice_puts s.net a (last c h) (stamp_of m) ++ dump_puts s.net a (suc (length h)) m)
    (side-holds P s.net a i i.side (id_after m h) l m r t)
    (both P (notice_puts s.net a (last c h) (stamp_of m)) (dump_puts s.net a (suc (length h)) m) (notice-holds P s.net a (last c h) (stamp_of m) r) (dump-holds P s.net a (suc (length h)) m r))

guarded-holds : (P : Message → Type 0) (b : Bool) (xs ps : List Put) → PutsHold P xs → guarded b xs ≡ Some ps → PutsHold P ps
guarded-holds P false xs ps h e = absurd cc
guarded-holds P true xs ps h e = let q : xs ≡ ps = cc in subst (PutsHold P) q h

-- it holds of what hosts send
abbrev pub HostsHold : (Message → Type 0) → Setup → Type 0
HostsHold P s = (h : ℕ) → Each (λ bytes. P (HostMsg bytes)) (frames_of s h)

action-holds : (P : Message → Type 0) (s : Setup) (f a : ℕ) (i : ActorId) (h : History) (n : ℕ) (ps : List Put) → IsCarried P → HostsHold P s → action s f a i h n ≡ Some ps → PutsHold P ps
action-holds P s f a Observer h zero ps r t e = guarded-holds P (can_issue s f h) (begin_all s.net (suc (issued s.net h))) ps (sends P (BeginMsg (suc (issued s.net h))) (links_out s.net 0 Begin) (r.begin (suc (issued s.net h)))) e
action-holds P s f a Observer h (suc zero) ps r t e = guarded-holds P (can_resend s f h) (begin_all s.net (issued s.net h)) ps (sends P (BeginMsg (issued s.net h)) (links_out s.net 0 Begin) (r.begin (issued s.net h))) e
action-holds P s f a (Control d) h zero ps r t e = guarded-holds P (not (is_swept s.net a h)) (flat_map (λ v. poll_puts v h) (served s.net a)) ps (all-served P (λ v. poll_puts v h) (served s.net a) (λ v. poll-holds P v h r)) e
action-holds P s f a (OfHost i) h zero ps r t e = of_frame (slice_get (frames_of s i) (taken (action_choice s.net a) h)) refl e
  where
    frame-at : (xs : List (List ℕ)) (n : ℕ) (b : List ℕ) → Each (λ bytes. P (HostMsg bytes)) xs → slice_get xs n ≡ Some b → P (HostMsg b)
    frame-at [] n b h e = absurd cc
    frame-at (x ∷ xs) zero b h e = let q : x ≡ b = cc in subst (λ y. P (HostMsg y)) q h.0
    frame-at (x ∷ xs) (suc n) b h e = frame-at xs n b h.1 e

    of_frame : (o : Option (List ℕ)) → slice_get (frames_of s i) (taken (action_choice s.net a) h) ≡ o → option_map (λ bytes. send_all (HostMsg bytes) (links_out s.net a FromHost)) o ≡ Some ps → PutsHold P ps
    of_frame None q e = absurd cc
    of_frame (Some bytes) q e = let p : send_all (HostMsg bytes) (links_out s.net a FromHost) ≡ ps = cc in
        subst (PutsHold P) p (sends P (HostMsg bytes) (links_out s.net a FromHost) (frame-at (frames_of s i) (taken (action_choice s.net a) h) bytes (t i) q))
action-holds P s f a Observer h (suc (suc n)) ps r t e = absurd cc
action-holds P s f a (Control d) h (suc n) ps r t e = absurd cc
action-holds P s f a (OfHost i) h (suc n) ps r t e = absurd cc
action-holds P s f a (OfUnit i) h n ps r t e = absurd cc

-- Worlds.

pub record AllHold (P : Message → Type 0) (w : World) : Type 0 where
  pub puts : (l a : ℕ) → Each P (put l (history w a))
  pub takes : (a : ℕ) → Each (λ s. IsTaken P s.taken) (history w a)

record StepHolds (P : Message → Type 0) (step : Step) : Type 0 where
  pub taken : IsTaken P step.taken
  pub puts : PutsHold P step.puts

step-holds : (P : Message → Type 0) (s : Setup) (lost : Losses) (w : World) (a : ℕ) (step : Step) → IsCarried P → HostsHold P s → AllHold P w → Takes s lost w a step ⊎ Acts s w a step → StepHolds P step
step-holds P s lost w a step r t h (inl x) = let l = x.took.link in let from = (link_of s.net l).from in
    let m : P x.took.message = each-get P (carried s.net lost w l) (taken step.choice (history w a)) x.took.message (each-lost P (lost l) 0 (put l (history w from)) (h.puts l from)) x.found in
    record {
      taken = subst (IsTaken P) (sym x.took.taken) m;
      puts = subst (PutsHold P) (sym x.took.puts) (taken-holds P s a (actor_of s.net a) (history w a) step.choice l x.took.message r m);
    }
step-holds P s lost w a step r t h (inr x) = record {
  taken = subst (IsTaken P) (sym x.acted.taken) tt;
  puts = action-holds P s x.acted.floor a (actor_of s.net a) (history w a) (step.choice - action_choice s.net a) step.puts r t x.acted.puts;
}

holds-turn : (P : Message → Type 0) (s : Setup) (lost : Losses) → IsCarried P → HostsHold P s → (w : World) (e : Entry) → AllHold P w → AllHold P (turn s lost w e)
holds-turn P s lost r t w e h = by_cases (turn-cases s lost w e)
  where
    of_step : (v : World) (x : Steps s lost w e v) → StepHolds P x.step → (a : ℕ) → ((nat_eq a e.0 ≡ true) × (a ≡ e.0)) ⊎ ((nat_eq a e.0 ≡ false) × (a ≡ e.0 → ⊥)) → ((l : ℕ) → Each P (put l (history v a))) × Each (λ s. IsTaken P s.taken) (history v a)
    of_step v x p a (inl q) = subst (λ g. ((l : ℕ) → Each P (put l g)) × Each (λ s. IsTaken P s.taken) g) (sym (ap (history v) q.1 ∙ x.grows.same))
        ((λ l. each-append P (put l (history w e.0)) (on_link l x.step.puts) (h.puts l e.0) (each-on-link (λ l m. P m) l x.step.puts p.puts)), (p.taken, h.takes e.0))
    of_step v x p a (inr q) = subst (λ g. ((l : ℕ) → Each P (put l g)) × Each (λ s. IsTaken P s.taken) g) (sym (x.grows.other a q.1)) ((λ l. h.puts l a), h.takes a)

    by_cases : (turn s lost w e ≡ w) ⊎ Steps s lost w e (turn s lost w e) → AllHold P (turn s lost w e)
    by_cases (inl q) = subst (AllHold P) (sym q) h
    by_cases (inr x) = let p = step-holds P s lost w e.0 x.step r t h (next-view s lost w e x.step x.next) in record {
      puts = λ l a. (of_step (turn s lost w e) x p a (eqb_tells a e.0)).0 l;
      takes = λ a. (of_step (turn s lost w e) x p a (eqb_tells a e.0)).1;
    }

pub all-hold : (P : Message → Type 0) (s : Setup) (lost : Losses) (es : List Entry) → IsCarried P → HostsHold P s → AllHold P (world s lost es)
all-hold P s lost es r t = kept_by_run s lost (AllHold P) (holds-turn P s lost r t) (start s.net) es (record {
  puts = λ l a. subst (λ h. Each P (put l h)) (sym (start-empty s.net a)) tt;
  takes = λ a. subst (Each (λ s. IsTaken P s.taken)) (sym (start-empty s.net a)) tt;
})

-- What hosts send, by flows and raw frames.
pub hosts-hold : (P : Message → Type 0) (s : Setup) (Q : Flow → Type 0) (R : RawPart → Type 0) → ((f : Flow) → Q f → Each (λ p. P (HostMsg (plain_frame p))) (flow_packets f)) → ((r : RawPart) → R r → P (HostMsg r.bytes))
    → Each Q s.flows → Each R s.raws → HostsHold P s
hosts-hold P s Q R flow raw q r h = each-append (λ bytes. P (HostMsg bytes)) (map plain_frame (packets_of s.flows h)) (map (λ r. r.bytes) (filter (λ r. r.from == h) s.raws))
    (each-map (λ bytes. P (HostMsg bytes)) plain_frame (packets_of s.flows h)
    (each-flat (λ p. P (HostMsg (plain_frame p))) flow_packets (filter (λ f. f.from == h) s.flows)
    (each-imp Q (λ f. Each (λ p. P (HostMsg (plain_frame p))) (flow_packets f)) (filter (λ f. f.from == h) s.flows) flow (each-filter Q (λ f. f.from == h) s.flows q))))
    (each-map (λ bytes. P (HostMsg bytes)) (λ r. r.bytes) (filter (λ r. r.from == h) s.raws)
    (each-imp R (λ r. P (HostMsg r.bytes)) (filter (λ r. r.from == h) s.raws) raw (each-filter R (λ r. r.from == h) s.raws r)))

-- Where hosts send short packets, each data packet of the world is short.

-- Frames.

short-frame : (bytes : List ℕ) → number_at bytes 12 < 2 ^ 16 → IsShort (HostMsg bytes)
unfolding packet_of
short-frame bytes l = by_bool (is_plain bytes) l
  where
    by_bool : (b : Bool) → number_at bytes 12 < 2 ^ 16 → unwrap_or (option_map (λ p. p.len) (if b then Some (packet_at bytes) else None)) 0 < 2 ^ 16
    by_bool true l = l
    by_bool false l = omega arith

pub plain-number : (p : Packet) → number_at (plain_frame p) 12 ≡ 256 * (p.len / 256) + p.len % 256
unfolding plain_frame
plain-number p = refl

short-plain : (p : Packet) → p.len < 2 ^ 16 → IsShort (HostMsg (plain_frame p))
short-plain p l = let e = plain-number p in short-frame (plain_frame p) (omega (arith, e, l))

pub low-byte : (bytes : List ℕ) (i : ℕ) → Each (λ b. b < 256) bytes → slice_index bytes i < 256
low-byte [] i e = omega arith
low-byte (b ∷ bytes) zero e = e.0
low-byte (b ∷ bytes) (suc i) e = low-byte bytes i e.1

short-raw : (bytes : List ℕ) → Each (λ b. b < 256) bytes → IsShort (HostMsg bytes)
short-raw bytes e = short-frame bytes (let a = low-byte bytes 12 e in let b = low-byte bytes 13 e in omega (arith, a, b))

-- Worlds.

short-carried : IsCarried IsShort
short-carried = record {
  probe = λ k. omega arith;
  init = λ k. omega arith;
  poll = omega arith;
  notice = omega arith;
  dump = λ n. omega arith;
  begin = λ k. omega arith;
  done = λ place n. omega arith;
  framed = λ k bytes q h e. subst (λ o. unwrap_or (option_map (λ p. p.len) o) 0 < 2 ^ 16) e h;
  stamped = λ k s q h. h;
  onward = λ k q h. h;
  plain = λ k q h. short-plain q h;
}

hosts-short : (s : Setup) → SendsShort s → HostsHold IsShort s
hosts-short s t = hosts-hold IsShort s (λ f. f.bytes < 2 ^ 16) (λ r. Each (λ b. b < 256) r.bytes)
    (λ f l. each-map (λ p. IsShort (HostMsg (plain_frame p))) (packet_in f) (below f.count) (each-of (λ n. IsShort (HostMsg (plain_frame (packet_in f n)))) (below f.count) (λ n m. short-plain (packet_in f n) l)))
    (λ r e. short-raw r.bytes e) t.flows t.raws

taken-short : (o : Option Message) → IsTaken IsShort o → unwrap_or (option_map (λ p. p.len) (option_and_then counted_in o)) 0 < 2 ^ 16
taken-short None h = omega arith
taken-short (Some m) h = h

pub all-short : (s : Setup) (lost : Losses) (es : List Entry) (a : ℕ) → SendsShort s → TakesShort (history (world s lost es) a)
all-short s lost es a t = each-imp (λ s. IsTaken IsShort s.taken) (λ s. unwrap_or (option_map (λ p. p.len) (counted s)) 0 < 2 ^ 16) (history (world s lost es) a) (λ s h. taken-short s.taken h)
    ((all-hold IsShort s lost es short-carried (hosts-short s t)).takes a)

-- Where hosts send packets whose fields fit a frame, each packet of the world fits one.

-- Frames.

fields-at : (bytes : List ℕ) → AreBytes bytes → HasFields (packet_at bytes)
fields-at bytes e = record {
  src = let a = low-byte bytes 4 e in let b = low-byte bytes 5 e in omega (arith, a, b);
  dst = let a = low-byte bytes 6 e in let b = low-byte bytes 7 e in omega (arith, a, b);
  seq = let a = low-byte bytes 8 e in let b = low-byte bytes 9 e in let c = low-byte bytes 10 e in let d = low-byte bytes 11 e in omega (arith, a, b, c, d);
  len = let a = low-byte bytes 12 e in let b = low-byte bytes 13 e in omega (arith, a, b);
  hops = low-byte bytes 14 e;
}

fields-of : (bytes : List ℕ) (q : Packet) → AreBytes bytes → packet_of bytes ≡ Some q → HasFields q
unfolding packet_of
fields-of bytes q e h = by_bool (is_plain bytes) h
  where
    by_bool : (b : Bool) → (if b then Some (packet_at bytes) else None) ≡ Some q → HasFields q
    by_bool true h = let z : packet_at bytes ≡ q = cc in subst HasFields z (fields-at bytes e)
    by_bool false h = absurd cc

plain-bytes : (q : Packet) → HasFields q → AreBytes (plain_frame q)
unfolding plain_frame
plain-bytes q h = (omega arith, (omega arith, (omega arith, (omega arith, (omega (arith, h.src), (omega (arith, h.src), (omega (arith, h.dst), (omega (arith, h.dst), (omega (arith, h.seq), (omega (arith, h.seq), (omega (arith, h.seq), (omega (arith, h.seq), (omega (arith, h.len), (omega (arith, h.len), (h.hops, (omega arith, (omega arith, (omega arith, (omega arith, (omega arith, (omega arith, (omega arith, (omega arith, (omega arith, tt))))))))))))))))))))))))

-- Worlds.

fields-carried : IsCarried MessageHasFields
fields-carried = record {
  probe = λ k. tt;
  init = λ k. tt;
  poll = tt;
  notice = tt;
  dump = λ n. tt;
  begin = λ k. tt;
  done = λ place n. tt;
  framed = λ k bytes q h e. fields-of bytes q h e;
  stamped = λ k s q h. h;
  onward = λ k q h. record { src = h.src; dst = h.dst; seq = h.seq; len = h.len; hops = let a = h.hops in omega (arith, a) };
  plain = λ k q h. plain-bytes q h;
}

flow-fields : (f : Flow) → FlowHasFields f → Each (λ p. AreBytes (plain_frame p)) (flow_packets f)
flow-fields f h = each-map (λ p. AreBytes (plain_frame p)) (packet_in f) (below f.count) (each-below (λ n. AreBytes (plain_frame (packet_in f n))) f.count
    (λ n l. plain-bytes (packet_in f n) (record { src = h.from; dst = h.to; seq = let a = h.count in omega (arith, a, l); len = h.bytes; hops = h.hops })))

pub puts-fields : (s : Setup) (lost : Losses) (es : List Entry) (l a : ℕ) → SendsFields s → Each MessageHasFields (put l (history (world s lost es) a))
puts-fields s lost es l a t = (all-hold MessageHasFields s lost es fields-carried (hosts-hold MessageHasFields s FlowHasFields (λ r. AreBytes r.bytes) flow-fields (λ r e. e) t.flows t.raws)).puts l a

taken-fields : (o : Option Message) → IsTaken MessageHasFields o → Each HasFields (listed (option_and_then counted_in o))
taken-fields None h = tt
taken-fields (Some (HostMsg bytes)) h = of_packet (packet_of bytes) (λ q e. fields-of bytes q h e)
  where
    of_packet : (o : Option Packet) → ((q : Packet) → o ≡ Some q → HasFields q) → Each HasFields (listed o)
    of_packet None f = tt
    of_packet (Some q) f = (f q refl, tt)
taken-fields (Some (Data s q)) h = (h, tt)
taken-fields (Some _) h = tt

pub takes-fields : (s : Setup) (lost : Losses) (es : List Entry) (a : ℕ) → SendsFields s → Each (λ step. Each HasFields (listed (counted step))) (history (world s lost es) a)
takes-fields s lost es a t = each-imp (λ s. IsTaken MessageHasFields s.taken) (λ step. Each HasFields (listed (counted step))) (history (world s lost es) a) (λ s h. taken-fields s.taken h)
    ((all-hold MessageHasFields s lost es fields-carried (hosts-hold MessageHasFields s FlowHasFields (λ r. AreBytes r.bytes) flow-fields (λ r e. e) t.flows t.raws)).takes a)

pub fields-short : (s : Setup) → SendsFields s → SendsShort s
fields-short s t = record { flows = each-imp FlowHasFields (λ f. f.bytes < 2 ^ 16) s.flows (λ f h. h.bytes) t.flows; raws = t.raws }

-- Messages pass as the law of passing says, and every turn does what the law of turns says.

-- each message of a list is one of them
each-itself : (ms : List Message) → Each (λ m. Member m ms) ms
each-itself ms = each-of (λ m. Member m ms) ms (λ m k. k)

came : (s : Setup) (lost : Losses) (w : World) (a : ℕ) (step : Step) (t : Takes s lost w a step) → Member t.took.message (put t.took.link (sender s.net w t.took.link))
came s lost w a step t = let l = t.took.link in let ms = put l (sender s.net w l) in
    each-get (λ m. Member m ms) (carried s.net lost w l) (taken step.choice (history w a)) t.took.message (each-lost (λ m. Member m ms) (lost l) 0 ms (each-itself ms)) t.found

coming : (s : Setup) (lost : Losses) (w : World) (a c l : ℕ) → IsFifoRun s lost w → slice_get (links_into s.net a) c ≡ Some l → Each (λ m. Member m (put l (sender s.net w l))) (on_way s.net lost w l)
coming s lost w a c l r k = let ms = put l (sender s.net w l) in let f = r.fifo a c l k in
    subst (Each (λ m. Member m ms)) (sym (on-way-is s.net lost w a c l k f))
    (each-back (λ m. Member m ms) (takes c (history w a)) f.rest (subst (Each (λ m. Member m ms)) f.split (each-lost (λ m. Member m ms) (lost l) 0 ms (each-itself ms))))

-- Numbers of messages.

rises-each : (a : ℕ) (xs : List ℕ) (b : ℕ) → Rises a xs b → Each (λ n. n ≤ b) xs
rises-each a [] b r = tt
rises-each a (x ∷ xs) b r = (rises-le x xs b r.1, rises-each x xs b r.1)

pub listed-each : (f : Message → Option ℕ) (b : ℕ) (ms : List Message) → Each (λ n. n ≤ b) (numbers f ms) → Each (λ m. (n : ℕ) → f m ≡ Some n → n ≤ b) ms
listed-each f b [] e = tt
listed-each f b (m ∷ ms) e = by_number (f m) (listed-each f b ms) e
  where
    by_number : (o : Option ℕ) → (Each (λ n. n ≤ b) (numbers f ms) → Each (λ m. (n : ℕ) → f m ≡ Some n → n ≤ b) ms) → Each (λ n. n ≤ b) (listed o ++ numbers f ms) → ((n : ℕ) → o ≡ Some n → n ≤ b) × Each (λ m. (n : ℕ) → f m ≡ Some n → n ≤ b) ms
    by_number None ih e = ((λ n q. absurd (cc)), ih e)
    by_number (Some k) ih e = ((λ n q. let s : k ≡ n = cc in subst (λ j. j ≤ b) s e.0), ih e.1)

dumps : (s : Setup) (u l : ℕ) (i : UnitId) (h : History) → actor_of s.net u ≡ OfUnit i → IsMade s u h → Each (λ m. (n : ℕ) → dump_of m ≡ Some n → n ≤ length h) (put l h)
dumps s u l i h q m = listed-each dump_of (length h) (put l h) (rises-each 0 (numbers dump_of (put l h)) (length h) (put-rises dump_of (λ h. length h) l h (unit-dumps s u i h q m)))

pub passes-messages : PassesMessages
passes-messages = record {
  by_link = λ l ps. each-on-link (λ k m. Member (record { link = k; message = m }) ps) l ps (each-of (λ p. Member p ps) ps (λ p k. k));
  fits = λ s lost w l r. put-fits s (link_of s.net l).from l (sender s.net w l) (r.made (link_of s.net l).from);
  came = came;
  taken = λ s lost w a c l r k. let ms = put l (sender s.net w l) in each-taken (λ m. Member m ms) (lost l) c (history w a) ms (each-itself ms) (r.fifo a c l k);
  coming = coming;
  last_heard = λ f c h. sym (heard-takes f c h);
  dumps = dumps;
}

-- Every turn does what the law of turns says.

stays : (s : Setup) (lost : Losses) (w : World) (e : Entry) (a : ℕ) → (a ≡ e.0 → ⊥) → history (turn s lost w e) a ≡ history w a
stays s lost w e a ne = by_cases (turn-cases s lost w e)
  where
    by_cases : (turn s lost w e ≡ w) ⊎ Steps s lost w e (turn s lost w e) → history (turn s lost w e) a ≡ history w a
    by_cases (inl q) = ap (λ v. history v a) q
    by_cases (inr t) = t.grows.other a ne

took-fits : (s : Setup) (lost : Losses) (w : World) (a : ℕ) (step : Step) → IsFifoRun s lost w → (t : Takes s lost w a step) → fits_link s.net t.took.link t.took.message ≡ true
took-fits s lost w a step r t = let from = (link_of s.net t.took.link).from in
    each-get (λ m. fits_link s.net t.took.link m ≡ true) (carried s.net lost w t.took.link) (taken step.choice (history w a)) t.took.message
    (each-lost (λ m. fits_link s.net t.took.link m ≡ true) (lost t.took.link) 0 (put t.took.link (history w from)) (put-fits s from t.took.link (history w from) (r.made from))) t.found

puts-fit : (s : Setup) (a : ℕ) (h : History) (step : Step) → Took s a h step ⊎ Acted s a h step → Each (λ p. fits_link s.net p.link p.message ≡ true) step.puts
puts-fit s a h step t = let d = step-said s a h step t in each-imp (PutBy s.net d.number d.count) (λ p. fits_link s.net p.link p.message ≡ true) step.puts (λ p b. b.fits) d.said

few-taken : (c : ℕ) (h : History) → taken c h ≤ length h
few-taken c [] = omega arith
few-taken c (step ∷ h) = let p = few-taken c h in let q = taken-step c step h in omega (arith, p, q)

few-steps : (s : Setup) (lost : Losses) (es : List Entry) (a : ℕ) → length (history (world s lost es) a) ≤ length es
few-steps s lost es a = omega (arith, history_size (world s lost es) a, world_size s lost (world s lost es) es refl)

pub takes-turns : TakesTurns
takes-turns = record {
  starts = start-empty;
  actors = world-length;
  parts = run-append;
  legal_parts = legal_append;
  kept = run-kept;
  legal = kept_legal;
  within = next-within;
  choice = λ s lost w e step n. choice-of-step s lost w e.0 e.1 step n;
  view = next-view;
  fits = took-fits;
  puts = puts-fit;
  begins = λ s f n h ps q. observer-acts s f 0 n h ps q;
  grows = λ s lost es e step n. step-grows s lost (world s lost es) e.0 e.1 step (es, refl) n;
  others = stays;
  extends = extends-turn;
  counted = taken-this;
  uncounted = taken-other;
  at_most = few-taken;
  fifo_run = fifo_run;
  goes_on = fifo_run-turn;
  few = few-steps;
  all_few = λ s lost es. world_size s lost (world s lost es) es refl;
  ingress = ingress_size;
}
