-- What a step owes, what a unit puts of a packet or a frame, and what the prices ask of the wiring.
use Rattle.std.proofs.Common.{◌+◌, ◌<◌, ◌==◌, List, Some, ap, drop, eq-eqb, inl, inr, length, refl, suc, take, zero, ℕ, ◌∙◌, ◌∷◌, ◌≡◌, ◌≤◌, arith, [], ◌++◌, ◌-◌, None, Option, subst, sym}
use Rattle.std.specs.Prelude.{◌&&◌, cond, slice_get, true, ◌⊎◌, Bool, false, nat_eq, if◌then◌else◌, map}
use Rattle.sl_layout.specs.Net.{actor_of, choice_of, link_of, Net, egress, links_out, same_actor, links_into}
use Rattle.sl_parts.specs.Parts.{below}
use Rattle.sl_model.specs.History.{Losses, World, history, taken}
use Rattle.sl_model.specs.Puts.{send_all, crossbar_to, onward, route, route_frame, side_puts}
use Rattle.sl_model.specs.Setup.{Setup}
use Rattle.sl_model.specs.Window.{on_way}
use Rattle.sl_model.specs.Words.{weigh}
use Rattle.sl_model.specs.World.{Entry, carried}
use Rattle.sl_model.specs.declared.message.Message.{Message}
use Rattle.sl_model.specs.declared.message.Step.{Step}
use Rattle.sl_model.specs.Flight.{Weight}
use Rattle.sl_model.specs.Potential.{credit, potential, price, goes_on, own_at, own_side}
use Rattle.sl_net.specs.Ways.{HasWays, IsOut}
use Rattle.sl_model.proofs.Worlds.Turns.{Steps}
use Rattle.sl_model.proofs.Bounded.Flights.{flight-step, paid, puts_weight}
use Rattle.sl_model.proofs.Finishing.Phase.{in-links}
use Rattle.sl_model.proofs.Worlds.ReachedWorlds.{TakesBy, choice-of-step, step-within}
use Rattle.sl_model.proofs.Lists.Weighed.{weigh-member, weigh-one, weigh-append, weigh-below}
use Rattle.std.proofs.lemmas.Bool.Decides.{eqb_tells}
use Rattle.sl_net.specs.Wired.{home, IsWired, receives, unit_receives, Reports}
use Rattle.sl_layout.specs.declared.actor.ActorId.{ActorId}
use Rattle.sl_layout.specs.declared.actor.ActorId.TheVariants.{Control, Observer, Host as OfHost, Unit as OfUnit}
use Rattle.sl_layout.specs.declared.actor.Side.{Side}
use Rattle.sl_layout.specs.declared.actor.Side.TheVariants.{Egress, Ingress}
use Rattle.sl_layout.specs.declared.actor.Sort.TheVariants.{Cable, Crossbar, ToHost, Done, Dump, Notice, Poll}
use Rattle.sl_layout.specs.declared.actor.UnitId.{UnitId}
use Rattle.sl_net.specs.declared.input.Packet.{Packet}
use Rattle.sl_model.specs.Frame.{packet_of, plain_frame}
use Rattle.sl_route.specs.Route.{next_port}
use Rattle.sl_parts.specs.Lists.{Each, Member}
use Rattle.sl_parts.proofs.Lists.{each-passes, each-imp, member-of-map, Distinct}
use Rattle.sl_model.specs.declared.message.Message.TheVariants.{Begin as BeginMsg, Data, Done as DoneMsg, Dump as DumpMsg, Host as HostMsg, Init as InitMsg, Notice as NoticeMsg, Poll as PollMsg, Probe as ProbeMsg}
use Rattle.sl_model.specs.Fare.{enter_fare, frame_to, frame_fare, frame_in, frame_side, leave_fare, onward_fare, packet_to, packet_fare, packet_side}
use Rattle.sl_layout.specs.Serving.{ServedUnit, choice_from, served, serving}
use Rattle.sl_layout.specs.declared.actor.Sort.{Sort}
use Rattle.sl_model.proofs.Worlds.Stamps.{out-of, distinct-out}

-- What a step owes, and the potential after it.

pub sends-weigh : (weight : Weight) (m : Message) (ls : List ℕ) → puts_weight weight (send_all m ls) ≡ weigh (λ l. weight l m) ls
sends-weigh weight m [] = refl
sends-weigh weight m (l ∷ ls) = omega (arith, sends-weigh weight m ls)

-- What is paid for a take.
first-of : (f : Message → ℕ) (xs : List Message) (n : ℕ) (m : Message) → slice_get xs n ≡ Some m → weigh f (take 1 (drop n xs)) ≡ f m
first-of f [] n m h = absurd cc
first-of f (x ∷ xs) zero m h = let e : x ≡ m = cc in omega (arith, ap f e)
first-of f (x ∷ xs) (suc n) m h = first-of f xs n m h

pub paid-take : (weight : Weight) (s : Setup) → HasWays s.net → (lost : Losses) (w : World) (e : Entry) (step : Step) (t : TakesBy s lost w e.0 e.1 step) → weight t.link t.message ≤ weigh (paid weight s.net lost w e) (below (length s.net.links))
paid-take weight s ways lost w e step t = let l = t.link in let x = ways.into e.0 e.1 l t.at in let c = ways.choice e.0 e.1 l t.at in
    let b : (((link_of s.net l).to == e.0) && (choice_of s.net l == e.1)) ≡ true = ap (λ b. b && (choice_of s.net l == e.1)) (eq-eqb (link_of s.net l).to e.0 x.to) ∙ eq-eqb (choice_of s.net l) e.1 c in
    let p : paid weight s.net lost w e l ≡ weigh (weight l) (take 1 (on_way s.net lost w l)) = ap (λ b. cond b (weigh (weight l) (take 1 (on_way s.net lost w l))) 0) b in
    let q : weigh (weight l) (take 1 (on_way s.net lost w l)) ≡ weight l t.message = ap (λ d. weigh (weight l) (take 1 (drop (taken d (history w (link_of s.net l).to)) (carried s.net lost w l)))) c
    ∙ ap (λ a. weigh (weight l) (take 1 (drop (taken e.1 (history w a)) (carried s.net lost w l)))) x.to ∙ first-of (weight l) (carried s.net lost w l) (taken e.1 (history w e.0)) t.message t.in_front in
    omega (arith, p, q, weigh-member (paid weight s.net lost w e) (below (length s.net.links)) l (in-links s.net l x.is_link))

-- What a step owes: its credit then and what it puts, against its credit before and what it took.
pub record Pays (s : Setup) (lost : Losses) (w : World) (a c : ℕ) (step : Step) (gain : ℕ) : Type 0 where
  pub took : ℕ
  pub within : (step.choice ≡ c) → (took ≡ 0) ⊎ ((t : TakesBy s lost w a c step) × (took ≡ price s.net t.link t.message))
  pub pays : suc (credit s a (actor_of s.net a) (step ∷ history w a) + puts_weight (price s.net) step.puts) ≤ credit s a (actor_of s.net a) (history w a) + took + gain

-- The law of the potential.
pub potential-step : (s : Setup) → HasWays s.net → (lost : Losses) (w v : World) (e : Entry) (gain : ℕ) → (t : Steps s lost w e v) → Pays s lost w e.0 e.1 t.step gain → suc (potential s lost v) ≤ potential s lost w + gain
potential-step s ways lost w v e gain t p = let a = e.0 in let ch = choice-of-step s lost w e.0 e.1 t.step t.next in
    let range : a < length s.net.actors = step-within s lost w e.0 e.1 t.step t.next in
    let fl = flight-step (price s.net) s.net lost w v e t.step t.grows ch in
    let one = weigh-one (λ b. credit s b (actor_of s.net b) (history w b)) (λ b. credit s b (actor_of s.net b) (history v b)) a 0 (length s.net.actors) (λ b ne. ap (credit s b (actor_of s.net b)) (t.grows.other b ne)) (omega arith) (omega (arith, range)) in
    let at = ap (credit s a (actor_of s.net a)) t.grows.same in
    omega (arith, fl, one, at, p.pays, took_paid (p.within ch))
  where
    took_paid : (p.took ≡ 0) ⊎ ((x : TakesBy s lost w e.0 e.1 t.step) × (p.took ≡ price s.net x.link x.message)) → p.took ≤ weigh (paid (price s.net) s.net lost w e) (below (length s.net.links))
    took_paid (inl z) = omega (arith, z)
    took_paid (inr x) = omega (arith, x.1, paid-take (price s.net) s ways lost w e t.step x.0)

-- What a unit puts of a packet or a frame costs less than that did.

enter-pays : (net : Net) (dst h l : ℕ) → 1 ≤ enter_fare net dst h l
enter-pays net dst zero l = omega arith
enter-pays net dst (suc h) l = omega arith

pub packet-pays : (net : Net) (l : ℕ) (p : Packet) → 1 ≤ packet_fare net l p
packet-pays net l p = at (actor_of net (link_of net l).to)
  where
    of_side : (s : Side) → 1 ≤ packet_side net p.dst p.hops l s
    of_side Ingress = enter-pays net p.dst p.hops l
    of_side Egress = omega arith

    at : (a : ActorId) → 1 ≤ packet_to net p.dst p.hops l a
    at Observer = omega arith
    at (Control d) = omega arith
    at (OfUnit i) = of_side i.side
    at (OfHost x) = omega arith

pub frame-pays : (net : Net) (l : ℕ) (b : List ℕ) → 1 ≤ frame_fare net l b
frame-pays net l b = at (actor_of net (link_of net l).to)
  where
    of_packet : (o : Option Packet) → 1 ≤ frame_in net l o
    of_packet None = omega arith
    of_packet (Some p) = enter-pays net p.dst p.hops l

    of_side : (s : Side) → 1 ≤ frame_side net l b s
    of_side Ingress = of_packet (packet_of b)
    of_side Egress = omega arith

    at : (a : ActorId) → 1 ≤ frame_to net l b a
    at Observer = omega arith
    at (Control d) = omega arith
    at (OfUnit i) = of_side i.side
    at (OfHost x) = omega arith

onward-fares : (net : Net) → HasWays net → (u d k : ℕ) (p : Packet) (h : ℕ) (o : Option ℕ) → p.hops ≡ h → puts_weight (price net) (onward net u d k p o) ≤ onward_fare net u d (λ m. enter_fare net p.dst h m) o
onward-fares net ways u d k p h None q = omega arith
onward-fares net ways u d k p h (Some x) q = let ls = crossbar_to net u d x in
    let a = sends-weigh (price net) (Data k p) ls in
    let b : weigh (λ l. price net l (Data k p)) ls ≤ weigh (λ l. leave_fare net (λ m. enter_fare net p.dst h m) (link_of net l).to) ls
    = weigh-below (λ l. price net l (Data k p)) (λ l. leave_fare net (λ m. enter_fare net p.dst h m) (link_of net l).to) ls
    (each-imp (λ l. same_actor (actor_of net (link_of net l).to) (egress d x) ≡ true) (λ l. price net l (Data k p) ≤ leave_fare net (λ m. enter_fare net p.dst h m) (link_of net l).to) ls at_link
    (each-passes (λ l. same_actor (actor_of net (link_of net l).to) (egress d x)) (links_out net u Crossbar))) in
    omega (arith, a, b)
  where
    at_link : (l : ℕ) → same_actor (actor_of net (link_of net l).to) (egress d x) ≡ true → packet_to net p.dst p.hops l (actor_of net (link_of net l).to) ≤ leave_fare net (λ m. enter_fare net p.dst h m) (link_of net l).to
    at_link l e = let y : packet_to net p.dst p.hops l (actor_of net (link_of net l).to) ≡ leave_fare net (λ m. enter_fare net p.dst h m) (link_of net l).to
        = ap (packet_to net p.dst p.hops l) (ways.is_actor (link_of net l).to (egress d x) e) ∙ ap (λ h. leave_fare net (λ m. enter_fare net p.dst h m) (link_of net l).to) q in omega (arith, y)

route-fares : (net : Net) → HasWays net → (u d k l : ℕ) (p : Packet) → (link_of net l).to ≡ u → home (actor_of net u) ≡ d → suc (puts_weight (price net) (route net u d k p)) ≤ enter_fare net p.dst p.hops l
route-fares net ways u d k l p t e = by_hops p.hops refl
  where
    none : {A : Type 0} (n : ℕ) (xs ys : List A) → n ≡ 0 → (if n == 0 then xs else ys) ≡ xs
    none n xs ys q = ap (λ n. if n == 0 then xs else ys) q

    some : {A : Type 0} (n h : ℕ) (xs ys : List A) → n ≡ suc h → (if n == 0 then xs else ys) ≡ ys
    some n h xs ys q = by_tells (eqb_tells n 0)
      where
        by_tells : ((nat_eq n 0 ≡ true) × (n ≡ 0)) ⊎ ((nat_eq n 0 ≡ false) × (n ≡ 0 → ⊥)) → (if n == 0 then xs else ys) ≡ ys
        by_tells (inl z) = absurd (omega (arith, z.1, q))
        by_tells (inr z) = ap (λ b. if b then xs else ys) z.0

    by_hops : (h : ℕ) → p.hops ≡ h → suc (puts_weight (price net) (route net u d k p)) ≤ enter_fare net p.dst p.hops l
    by_hops zero q = let x : route net u d k p ≡ [] = none p.hops [] _ q in let y : enter_fare net p.dst p.hops l ≡ 1 = ap (λ h. enter_fare net p.dst h l) q in
        omega (arith, ap (puts_weight (price net)) x, y)
    by_hops (suc h) q = let p' : Packet = record p { hops = p.hops - 1 } in
        let x : route net u d k p ≡ onward net u d k p' (next_port net.parts d p.dst) = some p.hops h [] _ q in
        let m : p.hops - 1 ≡ h = omega (arith, q) in
        let y : enter_fare net p.dst p.hops l ≡ suc (onward_fare net u d (λ m. enter_fare net p.dst h m) (next_port net.parts d p.dst)) = ap (λ h. enter_fare net p.dst h l) q
        ∙ ap (λ u. suc (onward_fare net u (home (actor_of net u)) (λ m. enter_fare net p.dst h m) (next_port net.parts (home (actor_of net u)) p.dst))) t
        ∙ ap (λ d. suc (onward_fare net u d (λ m. enter_fare net p.dst h m) (next_port net.parts d p.dst))) e in
        let z = onward-fares net ways u d k p' h (next_port net.parts d p.dst) m in
        omega (arith, ap (puts_weight (price net)) x, y, z)

weigh-ones : (f : ℕ → ℕ) (xs : List ℕ) → Each (λ x. f x ≤ 1) xs → weigh f xs ≤ length xs
weigh-ones f [] h = omega arith
weigh-ones f (x ∷ xs) h = omega (arith, h.0, weigh-ones f xs h.1)

-- cables lead to ingress units, and links to hosts lead to hosts

-- of a sort whose links lead to no other actor
pub only-ingress : (t : Sort) → receives Observer t ≡ false → ((d : ℕ) → receives (Control d) t ≡ false) → ((h : ℕ) → receives (OfHost h) t ≡ false) → unit_receives Egress t ≡ false
    → (x : ActorId) → receives x t ≡ true → (i : UnitId) × ((x ≡ OfUnit i) × (i.side ≡ Ingress))
only-ingress t o c h e Observer k = absurd (let z : true ≡ false = sym k ∙ o in cc)
only-ingress t o c h e (Control d) k = absurd (let z : true ≡ false = sym k ∙ c d in cc)
only-ingress t o c h e (OfHost x) k = absurd (let z : true ≡ false = sym k ∙ h x in cc)
only-ingress t o c h e (OfUnit i) k = (i, (refl, of_side i.side k))
  where
    of_side : (s : Side) → unit_receives s t ≡ true → s ≡ Ingress
    of_side Ingress k = refl
    of_side Egress k = absurd (let z : true ≡ false = sym k ∙ e in cc)

pub cable-receiver : (x : ActorId) → receives x Cable ≡ true → (i : UnitId) × ((x ≡ OfUnit i) × (i.side ≡ Ingress))
cable-receiver = only-ingress Cable refl (λ d. refl) (λ h. refl) refl

pub cable-to : (net : Net) (l : ℕ) → IsWired net → (link_of net l).sort ≡ Cable → (i : UnitId) × ((actor_of net (link_of net l).to ≡ OfUnit i) × (i.side ≡ Ingress))
cable-to net l w q = let p = w.ways.is_link l (λ z. let y : Cable ≡ ToHost = sym q ∙ z in cc) in
    cable-receiver (actor_of net (link_of net l).to) (subst (λ t. receives (actor_of net (link_of net l).to) t ≡ true) q (w.receiver l p))

pub host-receiver : (x : ActorId) → receives x ToHost ≡ true → (h : ℕ) × (x ≡ OfHost h)
host-receiver (OfHost x) h = (x, refl)
host-receiver Observer h = absurd cc
host-receiver (Control d) h = absurd cc
host-receiver (OfUnit i) h = absurd (of_side i.side h)
  where
    of_side : (s : Side) → unit_receives s ToHost ≡ true → ⊥
    of_side Ingress h = cc
    of_side Egress h = cc

leave-fares : (net : Net) → IsWired net → (u k : ℕ) (p : Packet)
    → suc (puts_weight (price net) (send_all (Data k p) (links_out net u Cable) ++ send_all (HostMsg (plain_frame p)) (links_out net u ToHost))) ≤ leave_fare net (λ m. enter_fare net p.dst p.hops m) u
leave-fares net r u k p = let cs = links_out net u Cable in let hs = links_out net u ToHost in let w = price net in
    let a = weigh-append (λ x. w x.link x.message) (send_all (Data k p) cs) (send_all (HostMsg (plain_frame p)) hs) in
    let b = sends-weigh w (Data k p) cs in let c = sends-weigh w (HostMsg (plain_frame p)) hs in
    let d : weigh (λ l. w l (Data k p)) cs ≤ weigh (λ m. enter_fare net p.dst p.hops m) cs = weigh-below (λ l. w l (Data k p)) (λ m. enter_fare net p.dst p.hops m) cs
    (each-imp (IsOut net u Cable) (λ l. price net l (Data k p) ≤ enter_fare net p.dst p.hops l) cs (λ l o. by_cable l (cable-to net l r o.sort)) (r.ways.outs u Cable)) in
    let e : weigh (λ l. w l (HostMsg (plain_frame p))) hs ≤ length hs = weigh-ones (λ l. w l (HostMsg (plain_frame p))) hs
    (each-imp (IsOut net u ToHost) (λ l. price net l (HostMsg (plain_frame p)) ≤ 1) hs
    (λ l o. by_host l (host-receiver (actor_of net (link_of net l).to) (subst (λ t. receives (actor_of net (link_of net l).to) t ≡ true) o.sort (r.receiver l o.is_link)))) (r.ways.outs u ToHost)) in
    omega (arith, a, b, c, d, e)
  where
    by_cable : (l : ℕ) → ((i : UnitId) × ((actor_of net (link_of net l).to ≡ OfUnit i) × (i.side ≡ Ingress))) → packet_to net p.dst p.hops l (actor_of net (link_of net l).to) ≤ enter_fare net p.dst p.hops l
    by_cable l x = let y : packet_to net p.dst p.hops l (actor_of net (link_of net l).to) ≡ enter_fare net p.dst p.hops l = ap (packet_to net p.dst p.hops l) x.1.0 ∙ ap (packet_side net p.dst p.hops l) x.1.1 in omega (arith, y)

    by_host : (l : ℕ) → ((h : ℕ) × (actor_of net (link_of net l).to ≡ OfHost h)) → frame_to net l (plain_frame p) (actor_of net (link_of net l).to) ≤ 1
    by_host l x = let y : frame_to net l (plain_frame p) (actor_of net (link_of net l).to) ≡ 1 = ap (frame_to net l (plain_frame p)) x.1 in omega (arith, y)

-- packets and frames
abbrev pub is_load : Message → Bool
is_load (HostMsg b) = true
is_load (Data k p) = true
is_load _ = false

pub carries : (net : Net) → IsWired net → (u k l : ℕ) (i : UnitId) (m : Message) → actor_of net u ≡ OfUnit i → (link_of net l).to ≡ u → is_load m ≡ true → suc (puts_weight (price net) (side_puts net u i i.side k l m)) ≤ price net l m
carries net r u k l i m q t h = by_message m h
  where
    at : actor_of net (link_of net l).to ≡ OfUnit i
    at = ap (actor_of net) t ∙ q

    dev : home (actor_of net u) ≡ i.device
    dev = ap home q

    of_packet : (o : Option Packet) → suc (puts_weight (price net) (route_frame net u i.device k o)) ≤ frame_in net l o
    of_packet None = omega arith
    of_packet (Some p) = route-fares net r.ways u i.device k l p t dev

    data_side : (p : Packet) (s : ℕ) (side : Side) → suc (puts_weight (price net) (side_puts net u i side k l (Data s p))) ≤ packet_side net p.dst p.hops l side
    data_side p s Ingress = route-fares net r.ways u i.device k l p t dev
    data_side p s Egress = subst (λ v. suc (puts_weight (price net) (side_puts net u i Egress k l (Data s p))) ≤ leave_fare net (λ m. enter_fare net p.dst p.hops m) v) (sym t) (leave-fares net r u k p)

    host_side : (b : List ℕ) (side : Side) → suc (puts_weight (price net) (side_puts net u i side k l (HostMsg b))) ≤ frame_side net l b side
    host_side b Ingress = of_packet (packet_of b)
    host_side b Egress = omega arith

    by_message : (m : Message) → is_load m ≡ true → suc (puts_weight (price net) (side_puts net u i i.side k l m)) ≤ price net l m
    by_message (HostMsg b) h = subst (λ a. suc (puts_weight (price net) (side_puts net u i i.side k l (HostMsg b))) ≤ frame_to net l b a) (sym at) (host_side b i.side)
    by_message (Data s p) h = subst (λ a. suc (puts_weight (price net) (side_puts net u i i.side k l (Data s p))) ≤ packet_to net p.dst p.hops l a) (sym at) (data_side p s i.side)
    by_message (ProbeMsg s) h = absurd cc
    by_message (InitMsg s) h = absurd cc
    by_message PollMsg h = absurd cc
    by_message NoticeMsg h = absurd cc
    by_message (DumpMsg n) h = absurd cc
    by_message (BeginMsg n) h = absurd cc
    by_message (DoneMsg v n) h = absurd cc

-- What the prices ask of the wiring.

pub record IsPriced (net : Net) : Type 0 where
  pub cable_in : (l : ℕ) → (link_of net l).sort ≡ Cable → goes_on net l ≡ false
  pub one_notice : (u : ℕ) (i : UnitId) → actor_of net u ≡ OfUnit i → length (links_out net u Notice) ≤ 1
  pub one_dump : (u : ℕ) (i : UnitId) → actor_of net u ≡ OfUnit i → length (links_out net u Dump) ≤ 1
  pub one_done : (a : ℕ) (v : ServedUnit) → Member v (served net a) → length (links_out net a Done) ≤ 1
  pub notice_once : (a c : ℕ) → weigh (λ v. if c == v.notice then 3 else 0) (served net a) ≤ 3
  pub dump_once : (a c : ℕ) → weigh (λ v. if c == v.dump then 1 else 0) (served net a) ≤ 1
  pub carries : (u k l : ℕ) (i : UnitId) (m : Message) → actor_of net u ≡ OfUnit i → (link_of net l).to ≡ u → is_load m ≡ true → suc (puts_weight (price net) (side_puts net u i i.side k l m)) ≤ price net l m

-- One element of a list at most.

pub once : {A : Type 0} (f : A → ℕ) (n c : ℕ) (xs : List A) → Distinct xs → ((x y : A) → Member x xs → Member y xs → c ≡ f x → c ≡ f y → x ≡ y) → weigh (λ x. if c == f x then n else 0) xs ≤ n
once f n c [] d k = omega arith
once f n c (x ∷ xs) d k = by_tells (eqb_tells c (f x)) (once f n c xs d.1 (λ y z p q. k y z (inr p) (inr q)))
  where
    none : (ys : List _) → ((y : _) → Member y ys → c ≡ f y → ⊥) → weigh (λ y. if c == f y then n else 0) ys ≤ 0
    none [] h = omega arith
    none (y ∷ ys) h = by_other (eqb_tells c (f y)) (none ys (λ z m. h z (inr m)))
      where
        by_other : ((nat_eq c (f y) ≡ true) × (c ≡ f y)) ⊎ ((nat_eq c (f y) ≡ false) × (c ≡ f y → ⊥)) → weigh (λ y. if c == f y then n else 0) ys ≤ 0 → (if c == f y then n else 0) + weigh (λ y. if c == f y then n else 0) ys ≤ 0
        by_other (inl q) ih = absurd (h y (inl refl) q.1)
        by_other (inr q) ih = let e : (if c == f y then n else 0) ≡ 0 = ap (λ b. if b then n else 0) q.0 in omega (arith, e, ih)

    by_tells : ((nat_eq c (f x) ≡ true) × (c ≡ f x)) ⊎ ((nat_eq c (f x) ≡ false) × (c ≡ f x → ⊥)) → weigh (λ x. if c == f x then n else 0) xs ≤ n → (if c == f x then n else 0) + weigh (λ x. if c == f x then n else 0) xs ≤ n
    by_tells (inl q) ih = let e : (if c == f x then n else 0) ≡ n = ap (λ b. if b then n else 0) q.0 in
        omega (arith, e, none xs (λ y m z. d.0 (subst (λ w. Member w xs) (sym (k x y (inl refl) (inr m) q.1 z)) m)))
    by_tells (inr q) ih = let e : (if c == f x then n else 0) ≡ 0 = ap (λ b. if b then n else 0) q.0 in omega (arith, e, ih)

pub weigh-map : {A B : Type 0} (f : B → ℕ) (g : A → B) (xs : List A) → weigh f (map g xs) ≡ weigh (λ x. f (g x)) xs
weigh-map f g [] = refl
weigh-map f g (x ∷ xs) = ap (λ n. f (g x) + n) (weigh-map f g xs)

-- What a control plane serves, by the link of its polls.

pub record Serves (net : Net) (a l : ℕ) : Type 0 where
  pub unit : UnitId
  pub is_unit : actor_of net (link_of net l).to ≡ OfUnit unit
  pub reports : Reports net (link_of net l).to
  pub poll : l ≡ reports.poll
  pub control : reports.control ≡ a

pub serves : (net : Net) (a l : ℕ) → IsWired net → IsOut net a Poll l → Serves net a l
serves net a l w o = let t = w.poll_to l o.is_link o.sort in let r = w.reports (link_of net l).to t.0 t.1 in
    let p : l ≡ r.poll = r.polled l refl o.sort in
    record { unit = t.0; is_unit = t.1; reports = r; poll = p; control = sym r.poll_from ∙ ap (λ k. (link_of net k).from) (sym p) ∙ o.from }

-- two links from units to one control plane that it takes by one choice are one, so the units are one
same-poll : (net : Net) (a l k x y : ℕ) (t : Sort) → (m : Serves net a l) → (n : Serves net a k) → IsOut net a Poll k → IsOut net (link_of net l).to t x → IsOut net (link_of net k).to t y
    → slice_get (links_into net a) (choice_of net x) ≡ Some x → slice_get (links_into net a) (choice_of net y) ≡ Some y → choice_of net x ≡ choice_of net y → l ≡ k
same-poll net a l k x y t m n o p r i j e = let s : Some x ≡ Some y = sym i ∙ ap (slice_get (links_into net a)) e ∙ j in let same : x ≡ y = cc in
    let u : (link_of net k).to ≡ (link_of net l).to = sym r.from ∙ ap (λ v. (link_of net v).from) (sym same) ∙ p.from in
    m.poll ∙ sym (m.reports.polled k u o.sort)

notice-of : (net : Net) (a l : ℕ) (m : Serves net a l) → (serving net a l).notice ≡ choice_of net m.reports.notice
notice-of net a l m = subst (λ b. choice_from net b (link_of net l).to Notice ≡ choice_of net m.reports.notice) m.control m.reports.notice_choice

dump-of : (net : Net) (a l : ℕ) (m : Serves net a l) → (serving net a l).dump ≡ choice_of net m.reports.dump
dump-of net a l m = subst (λ b. choice_from net b (link_of net l).to Dump ≡ choice_of net m.reports.dump) m.control m.reports.dump_choice

notice-into : (net : Net) (a l : ℕ) (m : Serves net a l) → slice_get (links_into net a) (choice_of net m.reports.notice) ≡ Some m.reports.notice
notice-into net a l m = subst (λ b. slice_get (links_into net b) (choice_of net m.reports.notice) ≡ Some m.reports.notice) m.control m.reports.notice_taken

dump-into : (net : Net) (a l : ℕ) (m : Serves net a l) → slice_get (links_into net a) (choice_of net m.reports.dump) ≡ Some m.reports.dump
dump-into net a l m = subst (λ b. slice_get (links_into net b) (choice_of net m.reports.dump) ≡ Some m.reports.dump) m.control m.reports.dump_taken

-- The net of valid parts.
pub priced : (net : Net) → IsWired net → IsPriced net
priced net w = record {
  cable_in = λ l q. let x = cable-to net l w q in ap (own_at net l) x.1.0 ∙ ap (own_side net l x.0) x.1.1;
  one_notice = λ u i q. let r = w.reports u i q in omega (arith, ap length r.notices);
  one_dump = λ u i q. let r = w.reports u i q in omega (arith, ap length r.dumps);
  one_done = λ a v m. of_served a v (member-of-map (serving net a) v (links_out net a Poll) m);
  notice_once = λ a c. subst (λ n. n ≤ 3) (sym (weigh-map (λ v. if c == v.notice then 3 else 0) (serving net a) (links_out net a Poll)))
      (once (λ l. (serving net a l).notice) 3 c (links_out net a Poll) (distinct-out net a Poll) (λ l k p q x y. by_notice a l k (out-of net a Poll l p) (out-of net a Poll k q) (sym x ∙ y)));
  dump_once = λ a c. subst (λ n. n ≤ 1) (sym (weigh-map (λ v. if c == v.dump then 1 else 0) (serving net a) (links_out net a Poll)))
      (once (λ l. (serving net a l).dump) 1 c (links_out net a Poll) (distinct-out net a Poll) (λ l k p q x y. by_dump a l k (out-of net a Poll l p) (out-of net a Poll k q) (sym x ∙ y)));
  carries = carries net w;
}
  where
    of_served : (a : ℕ) (v : ServedUnit) → ((l : ℕ) × Member l (links_out net a Poll) × (v ≡ serving net a l)) → length (links_out net a Done) ≤ 1
    of_served a v x = let m = serves net a x.0 w (out-of net a Poll x.0 x.1) in omega (arith, ap length (sym (ap (λ b. links_out net b Done) m.control) ∙ m.reports.dones))

    by_notice : (a l k : ℕ) → IsOut net a Poll l → IsOut net a Poll k → (serving net a l).notice ≡ (serving net a k).notice → l ≡ k
    by_notice a l k o p e = let m = serves net a l w o in let n = serves net a k w p in
        same-poll net a l k m.reports.notice n.reports.notice Notice m n p m.reports.notice_out n.reports.notice_out (notice-into net a l m) (notice-into net a k n) (sym (notice-of net a l m) ∙ e ∙ notice-of net a k n)

    by_dump : (a l k : ℕ) → IsOut net a Poll l → IsOut net a Poll k → (serving net a l).dump ≡ (serving net a k).dump → l ≡ k
    by_dump a l k o p e = let m = serves net a l w o in let n = serves net a k w p in
        same-poll net a l k m.reports.dump n.reports.dump Dump m n p m.reports.dump_out n.reports.dump_out (dump-into net a l m) (dump-into net a k n) (sym (dump-of net a l m) ∙ e ∙ dump-of net a k n)
