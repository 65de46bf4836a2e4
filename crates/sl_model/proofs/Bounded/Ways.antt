-- How links lead on in the net of parts without a fault: by one link at a time, and to a host always nearer.
use Rattle.std.proofs.Common.{◌+◌, ◌<◌, List, None, Option, Some, ap, inl, inr, length, refl, subst, sym, ℕ, ◌∙◌, ◌∷◌, ◌≡◌, ◌≤◌, arith, [], ◌*◌, suc, zero}
use Rattle.std.specs.Prelude.{false, true, ◌⊎◌}
use Rattle.sl_layout.specs.Net.{Incoming, Net, actor_of, actors_of, egress, from_host_or_cable, from_outside, incoming, ingress, link_of, links_out, net_of, place_of, same_actor, to_host, unit_incoming}
use Rattle.sl_parts.specs.Parts.{Parts, has_cable, host_at, other_end, below}
use Rattle.sl_net.specs.Wired.{home, HasEnds, IsNet, receives, IsWired}
use Rattle.sl_layout.specs.declared.actor.ActorId.{ActorId}
use Rattle.sl_layout.specs.declared.actor.ActorId.TheVariants.{Control, Observer, Host as OfHost, Unit as OfUnit}
use Rattle.sl_layout.specs.declared.actor.Side.{Side}
use Rattle.sl_layout.specs.declared.actor.Side.TheVariants.{Egress, Ingress}
use Rattle.sl_layout.specs.declared.actor.Sort.{Sort}
use Rattle.sl_layout.specs.declared.actor.Sort.TheVariants.{Cable, Crossbar, FromHost, Init, Poll, ToHost}
use Rattle.sl_layout.specs.declared.actor.UnitId.{UnitId}
use Rattle.sl_parts.specs.declared.parts.PortRef.{PortRef}
use Rattle.sl_model.specs.Puts.{crossbar_to}
use Rattle.sl_route.specs.Route.{Walk, first_port, least_walks, next_port}
use Rattle.sl_parts.specs.Lists.{Each, Member}
use Rattle.sl_parts.proofs.Lists.{distinct-filter, each-at, each-both, each-imp, member-parts, each-of}
use Rattle.sl_model.specs.Fare.{device_at, enter_fare, frame_to, frame_fare, frame_in, frame_side, leave_fare, onward_fare}
use Rattle.sl_net.specs.Ways.{IsOut, HasWays}
use Rattle.sl_model.proofs.Bounded.Prices.{cable-receiver, host-receiver, only-ingress}
use Rattle.sl_model.proofs.Bounded.PortUse.{HasOwnPorts, Joins, host-at-is, joined-end, joins-back, joins-once, no-cable, one-host, other-joins, own-ports, port_at}
use Rattle.sl_model.proofs.Bounded.Ranks.{Towards, cable-joins, rank, rank-below, rank-nearer, towards, walk-ends}
use Rattle.sl_model.proofs.Lists.Weighed.{one-at-most, weigh-each}
use Rattle.sl_net.specs.declared.input.Packet.{Packet}
use Rattle.sl_model.specs.Frame.{packet_of}
use Rattle.sl_model.specs.Setup.{Setup, frames_of}
use Rattle.sl_model.specs.Words.{weigh}
use Rattle.sl_model.specs.Potential.{channels, frame_price, round_price}
use Rattle.sl_model.proofs.Bounded.Whole.{start_credit, start_potential}
use Rattle.sl_model.proofs.Worlds.Stamps.{out-of, distinct-out}

-- Links by their ends.

-- links that lead to the same actor lead to the same number, and so from
pub same-to : (parts : Parts) (l k : ℕ) → IsWired (net_of parts) → (m : HasEnds (net_of parts) l) (n : HasEnds (net_of parts) k) → m.receiver ≡ n.receiver → (link_of (net_of parts) l).to ≡ (link_of (net_of parts) k).to
same-to parts l k v m n e = m.to ∙ ap (λ a. place_of a (actors_of parts)) e ∙ sym n.to

pub same-from : (parts : Parts) (l k : ℕ) → IsWired (net_of parts) → (m : HasEnds (net_of parts) l) (n : HasEnds (net_of parts) k) → m.sender ≡ n.sender → (link_of (net_of parts) l).from ≡ (link_of (net_of parts) k).from
same-from parts l k v m n e = m.from ∙ ap (λ a. place_of a (actors_of parts)) e ∙ sym n.from

-- What comes from outside a device.

outside-cable : (o : Option ℕ) (r : Option PortRef) (x : ActorId) → Member {A = Incoming} (x, Cable) (from_host_or_cable o r) → (e : PortRef) × ((r ≡ Some e) × (x ≡ egress e.device e.port))
outside-cable (Some h) r x (inl q) = absurd (let z : Cable ≡ FromHost = ap (λ i. i.1) q in cc)
outside-cable (Some h) r x (inr m) = absurd m
outside-cable None (Some e) x (inl q) = (e, (refl, ap (λ i. i.0) q))
outside-cable None (Some e) x (inr m) = absurd m
outside-cable None None x m = absurd m

outside-host : (o : Option ℕ) (r : Option PortRef) (x : ActorId) → Member {A = Incoming} (x, FromHost) (from_host_or_cable o r) → (h : ℕ) × ((o ≡ Some h) × (x ≡ OfHost h))
outside-host (Some h) r x (inl q) = (h, (refl, ap (λ i. i.0) q))
outside-host (Some h) r x (inr m) = absurd m
outside-host None (Some e) x (inl q) = absurd (let z : FromHost ≡ Cable = ap (λ i. i.1) q in cc)
outside-host None (Some e) x (inr m) = absurd m
outside-host None None x m = absurd m

from-outside-only : (parts : Parts) (d p : ℕ) (x : ActorId) (t : Sort) → (t ≡ Init → ⊥) → (t ≡ Poll → ⊥) → Member {A = Incoming} (x, t) (unit_incoming parts d p Ingress) → Member {A = Incoming} (x, t) (from_outside parts (record { device = d; port = p }))
from-outside-only parts d p x t i k m = by_parts (member-parts (x, t) (from_outside parts (record { device = d; port = p })) ((Control d, Init) ∷ (Control d, Poll) ∷ []) m)
  where
    by_parts : Member {A = Incoming} (x, t) (from_outside parts (record { device = d; port = p })) ⊎ Member {A = Incoming} (x, t) ((Control d, Init) ∷ (Control d, Poll) ∷ []) → Member {A = Incoming} (x, t) (from_outside parts (record { device = d; port = p }))
    by_parts (inl n) = n
    by_parts (inr (inl q)) = absurd (i (ap (λ i. i.1) q))
    by_parts (inr (inr (inl q))) = absurd (k (ap (λ i. i.1) q))
    by_parts (inr (inr (inr n))) = absurd n

-- A link into a device: to the ingress unit of a port.
record Inlet (parts : Parts) (l : ℕ) (t : Sort) : Type 0 where
  link : HasEnds (net_of parts) l
  at : PortRef
  receiver : link.receiver ≡ ingress at.device at.port
  outside : Member {A = Incoming} (link.sender, t) (from_outside parts at)

inlet : (parts : Parts) (l : ℕ) → IsWired (net_of parts) → l < length (net_of parts).links → (t : Sort) → (link_of (net_of parts) l).sort ≡ t
    → ((x : ActorId) → receives x t ≡ true → (i : UnitId) × ((x ≡ OfUnit i) × (i.side ≡ Ingress))) → (t ≡ Init → ⊥) → (t ≡ Poll → ⊥) → Inlet parts l t
inlet parts l v p t q takes init poll = let k = v.ends l p in let x = takes k.receiver (subst (λ s. receives k.receiver s ≡ true) q k.received) in
    let i = x.0 in
    let r : k.receiver ≡ ingress i.device i.port = x.1.0 ∙ ap (λ s. OfUnit (record { device = i.device; port = i.port; side = s })) x.1.1 in
    let m : Member {A = Incoming} (k.sender, t) (unit_incoming parts i.device i.port Ingress) = subst (λ y. Member {A = Incoming} (k.sender, t) (incoming parts y)) r (subst (λ s. Member {A = Incoming} (k.sender, s) (incoming parts k.receiver)) q k.listed) in
    record { link = k; at = record { device = i.device; port = i.port }; receiver = r; outside = from-outside-only parts i.device i.port k.sender t init poll m }

-- A cable link: from the egress unit at one end of a cable to the ingress unit at the other.
pub record CableLink (parts : Parts) (l : ℕ) : Type 0 where
  pub link : HasEnds (net_of parts) l
  pub near : PortRef
  pub far : PortRef
  pub sender : link.sender ≡ egress near.device near.port
  pub receiver : link.receiver ≡ ingress far.device far.port
  pub joins : Joins parts.cables near far

pub cable-link : (parts : Parts) (l : ℕ) → IsWired (net_of parts) → l < length (net_of parts).links → (link_of (net_of parts) l).sort ≡ Cable → CableLink parts l
cable-link parts l v p q = let n = inlet parts l v p Cable q cable-receiver (λ z. cc) (λ z. cc) in let e = outside-cable (host_at parts n.at) (other_end parts.cables n.at) n.link.sender n.outside in
    record { link = n.link; near = e.0; far = n.at; sender = e.1.1; receiver = n.receiver; joins = joins-back parts.cables n.at e.0 (other-joins parts.cables n.at e.0 e.1.0) }

-- A link to a host: from the egress unit at its port.
pub record HostLink (parts : Parts) (l : ℕ) : Type 0 where
  pub link : HasEnds (net_of parts) l
  pub host : ℕ
  pub at : PortRef
  pub sender : link.sender ≡ egress at.device at.port
  pub receiver : link.receiver ≡ OfHost host
  pub stands : port_at parts.hosts host ≡ Some at

pub host-link : (parts : Parts) (l : ℕ) → IsWired (net_of parts) → l < length (net_of parts).links → (link_of (net_of parts) l).sort ≡ ToHost → HostLink parts l
host-link parts l v p q = let k = v.ends l p in let x = host-receiver k.receiver (subst (λ t. receives k.receiver t ≡ true) q k.received) in
    of_port k x.0 x.1 (port_at parts.hosts x.0) refl (subst (λ y. Member (k.sender, (link_of (net_of parts) l).sort) (incoming parts y)) x.1 k.listed)
  where
    of_port : (k : HasEnds (net_of parts) l) (h : ℕ) → k.receiver ≡ OfHost h → (o : Option PortRef) → port_at parts.hosts h ≡ o → Member (k.sender, (link_of (net_of parts) l).sort) (to_host o) → HostLink parts l
    of_port k h r None e m = absurd m
    of_port k h r (Some at) e (inl z) = record { link = k; host = h; at = at; sender = ap (λ i. i.0) z; receiver = r; stands = e }
    of_port k h r (Some at) e (inr m) = absurd m

-- A link from a host: to the ingress unit at its port.
pub record FromLink (parts : Parts) (l : ℕ) : Type 0 where
  pub link : HasEnds (net_of parts) l
  pub host : ℕ
  pub at : PortRef
  pub sender : link.sender ≡ OfHost host
  pub receiver : link.receiver ≡ ingress at.device at.port
  pub stands : port_at parts.hosts host ≡ Some at

from-receiver : (x : ActorId) → receives x FromHost ≡ true → (i : UnitId) × ((x ≡ OfUnit i) × (i.side ≡ Ingress))
from-receiver = only-ingress FromHost refl (λ d. refl) (λ h. refl) refl

stands-at : (parts : Parts) (p : PortRef) (h : ℕ) → host_at parts p ≡ Some h → port_at parts.hosts h ≡ Some p
stands-at parts p h q = let s = host-at-is 0 parts.hosts p h q in let e : s.0 ≡ h = omega (arith, s.1.0) in subst (λ n. port_at parts.hosts n ≡ Some p) e s.1.1

pub from-link : (parts : Parts) (l : ℕ) → IsWired (net_of parts) → l < length (net_of parts).links → (link_of (net_of parts) l).sort ≡ FromHost → FromLink parts l
from-link parts l v p q = let n = inlet parts l v p FromHost q from-receiver (λ z. cc) (λ z. cc) in let e = outside-host (host_at parts n.at) (other_end parts.cables n.at) n.link.sender n.outside in
    record { link = n.link; host = e.0; at = n.at; sender = e.1.1; receiver = n.receiver; stands = stands-at parts n.at e.0 e.1.0 }

-- Ports of units.

abbrev port_of_unit : ActorId → PortRef
port_of_unit (OfUnit i) = record { device = i.device; port = i.port }
port_of_unit _ = record { device = 0; port = 0 }

abbrev host_number : ActorId → ℕ
host_number (OfHost h) = h
host_number _ = 0

same-egress : (p q : PortRef) → egress p.device p.port ≡ egress q.device q.port → p ≡ q
same-egress p q e = ap port_of_unit e

-- Where links lead on.

pub record IsGuided (net : Net) : Type 0 where
  pub one_way : (u d port : ℕ) → length (crossbar_to net u d port) ≤ 1
  pub one_out : (u : ℕ) → length (links_out net u Cable) + length (links_out net u ToHost) ≤ 1
  pub one_in : (a : ℕ) → length (links_out net a FromHost) ≤ 1
  pub nearer : (u d port dst : ℕ) → next_port net.parts d dst ≡ Some port
      → Each (λ m. Each (λ l. rank net.parts dst (device_at net l) < rank net.parts dst d) (links_out net (link_of net m).to Cable)) (crossbar_to net u d port)
  pub ranked : (dst d : ℕ) → rank net.parts dst d < length net.parts.devices

one-cable : (parts : Parts) → IsWired (net_of parts) → HasOwnPorts parts → (u l k : ℕ) → IsOut (net_of parts) u Cable l → IsOut (net_of parts) u Cable k → l ≡ k
one-cable parts v w u l k o p = let x = cable-link parts l v o.is_link o.sort in let y = cable-link parts k v p.is_link p.sort in
    let s : x.link.sender ≡ y.link.sender = sym (x.link.from_is) ∙ ap (actor_of (net_of parts)) (o.from ∙ sym p.from) ∙ y.link.from_is in
    let n : x.near ≡ y.near = same-egress x.near y.near (sym x.sender ∙ s ∙ y.sender) in
    let f : x.far ≡ y.far = joins-once [] parts.cables x.near x.far y.far w.cables x.joins (subst (λ p. Joins parts.cables p y.far) (sym n) y.joins) in
    let t : x.link.receiver ≡ y.link.receiver = x.receiver ∙ ap (λ p. ingress p.device p.port) f ∙ sym y.receiver in
    v.one_link l k o.is_link p.is_link (o.from ∙ sym p.from) (same-to parts l k v x.link y.link t) (o.sort ∙ sym p.sort)

one-to-host : (parts : Parts) → IsWired (net_of parts) → HasOwnPorts parts → (u l k : ℕ) → IsOut (net_of parts) u ToHost l → IsOut (net_of parts) u ToHost k → l ≡ k
one-to-host parts v w u l k o p = let x = host-link parts l v o.is_link o.sort in let y = host-link parts k v p.is_link p.sort in
    let s : x.link.sender ≡ y.link.sender = sym (x.link.from_is) ∙ ap (actor_of (net_of parts)) (o.from ∙ sym p.from) ∙ y.link.from_is in
    let n : x.at ≡ y.at = same-egress x.at y.at (sym x.sender ∙ s ∙ y.sender) in
    let h : x.host ≡ y.host = one-host parts [] parts.hosts x.host y.host x.at w.hosts x.stands (y.stands ∙ ap Some (sym n)) in
    let t : x.link.receiver ≡ y.link.receiver = x.receiver ∙ ap OfHost h ∙ sym y.receiver in
    v.one_link l k o.is_link p.is_link (o.from ∙ sym p.from) (same-to parts l k v x.link y.link t) (o.sort ∙ sym p.sort)

not-both : (parts : Parts) → IsWired (net_of parts) → HasOwnPorts parts → (u l k : ℕ) → IsOut (net_of parts) u Cable l → IsOut (net_of parts) u ToHost k → ⊥
not-both parts v w u l k o p = let x = cable-link parts l v o.is_link o.sort in let y = host-link parts k v p.is_link p.sort in
    let s : x.link.sender ≡ y.link.sender = sym (x.link.from_is) ∙ ap (actor_of (net_of parts)) (o.from ∙ sym p.from) ∙ y.link.from_is in
    let n : x.near ≡ y.at = same-egress x.near y.at (sym x.sender ∙ s ∙ y.sender) in
    let z : true ≡ false = sym (joined-end parts.cables x.near x.far x.joins) ∙ ap (has_cable parts) n ∙ no-cable parts [] parts.hosts y.host y.at w.hosts y.stands in cc

one-from-host : (parts : Parts) → IsWired (net_of parts) → (a l k : ℕ) → IsOut (net_of parts) a FromHost l → IsOut (net_of parts) a FromHost k → l ≡ k
one-from-host parts v a l k o p = let x = from-link parts l v o.is_link o.sort in let y = from-link parts k v p.is_link p.sort in
    let s : x.link.sender ≡ y.link.sender = sym (x.link.from_is) ∙ ap (actor_of (net_of parts)) (o.from ∙ sym p.from) ∙ y.link.from_is in
    let h : x.host ≡ y.host = ap host_number (sym x.sender ∙ s ∙ y.sender) in
    let e : Some x.at ≡ Some y.at = sym x.stands ∙ ap (port_at parts.hosts) h ∙ y.stands in let n : x.at ≡ y.at = cc in
    let t : x.link.receiver ≡ y.link.receiver = x.receiver ∙ ap (λ p. ingress p.device p.port) n ∙ sym y.receiver in
    v.one_link l k o.is_link p.is_link (o.from ∙ sym p.from) (same-to parts l k v x.link y.link t) (o.sort ∙ sym p.sort)

few-out : (xs ys : List ℕ) → length xs ≤ 1 → length ys ≤ 1 → ((x y : ℕ) → Member x xs → Member y ys → ⊥) → length xs + length ys ≤ 1
few-out [] ys a b k = omega (arith, b)
few-out (x ∷ xs) [] a b k = omega (arith, a)
few-out (x ∷ xs) (y ∷ ys) a b k = absurd (k x y (inl refl) (inl refl))

-- a crossbar link to an egress unit
pub record CrossTo (net : Net) (u d port l : ℕ) : Type 0 where
  pub out : IsOut net u Crossbar l
  pub to : actor_of net (link_of net l).to ≡ egress d port

pub each-cross : (net : Net) → HasWays net → (u d port : ℕ) → Each (CrossTo net u d port) (crossbar_to net u d port)
each-cross net ways u d port = each-imp (λ l. IsOut net u Crossbar l × (same_actor (actor_of net (link_of net l).to) (egress d port) ≡ true)) (CrossTo net u d port) (crossbar_to net u d port)
    (λ l h. record { out = h.0; to = ways.is_actor (link_of net l).to (egress d port) h.1 })
    (each-both (IsOut net u Crossbar) (λ l. same_actor (actor_of net (link_of net l).to) (egress d port)) (links_out net u Crossbar) (ways.outs u Crossbar))

one-cross : (parts : Parts) → IsWired (net_of parts) → (u d port l k : ℕ) → CrossTo (net_of parts) u d port l → CrossTo (net_of parts) u d port k → l ≡ k
one-cross parts v u d port l k o p = let x = v.ends l o.out.is_link in let y = v.ends k p.out.is_link in
    let t : x.receiver ≡ y.receiver = sym (x.to_is) ∙ o.to ∙ sym p.to ∙ y.to_is in
    v.one_link l k o.out.is_link p.out.is_link (o.out.from ∙ sym p.out.from) (same-to parts l k v x y t) (o.out.sort ∙ sym p.out.sort)

-- the cable behind the egress unit of the next port leads nearer
leads-nearer : (parts : Parts) → IsWired (net_of parts) → HasOwnPorts parts → (u d port dst m l : ℕ) → next_port parts d dst ≡ Some port → CrossTo (net_of parts) u d port m → IsOut (net_of parts) (link_of (net_of parts) m).to Cable l
    → rank parts dst (device_at (net_of parts) l) < rank parts dst d
leads-nearer parts v w u d port dst m l h c o = of_walk t.walk refl t.among
  where
    t : Towards parts d dst port
    t = towards parts d dst port h

    x : CableLink parts l
    x = cable-link parts l v o.is_link o.sort

    from_here : x.near ≡ record { device = d; port = port }
    from_here = same-egress x.near (record { device = d; port = port }) (sym x.sender ∙ sym (x.link.from_is) ∙ ap (actor_of (net_of parts)) o.from ∙ c.to)

    device : device_at (net_of parts) l ≡ x.far.device
    device = ap home (x.link.to_is ∙ x.receiver)

    of_walk : (walk : Walk) → t.walk ≡ walk → Member t.walk (least_walks parts d t.at.device) → rank parts dst (device_at (net_of parts) l) < rank parts dst d
    of_walk [] q k = let e : port ≡ t.at.port = t.begins ∙ ap (first_port t.at.port) q in
        let a : d ≡ t.at.device = walk-ends parts d t.at.device (subst (λ w. Member w (least_walks parts d t.at.device)) q k) in
        let n : x.near ≡ t.at = from_here ∙ ap (λ y. record { device = y; port = port }) a ∙ ap (λ y. record { device = t.at.device; port = y }) e in
        absurd (let z : true ≡ false = sym (joined-end parts.cables x.near x.far x.joins) ∙ ap (has_cable parts) n ∙ no-cable parts [] parts.hosts dst t.at w.hosts t.host in cc)
    of_walk (y ∷ walk) q k = let r = rank-nearer parts dst d t.at y walk t.host (subst (λ w. Member w (least_walks parts d t.at.device)) q k) in
        let j = cable-joins parts d y r.1 in
        let p : y.a ≡ x.near = ap (λ n. record { device = n; port = y.a.port }) j.0 ∙ ap (λ n. record { device = d; port = n }) (sym (t.begins ∙ ap (first_port t.at.port) q)) ∙ sym from_here in
        let f : y.b ≡ x.far = joins-once [] parts.cables x.near y.b x.far w.cables (subst (λ p. Joins parts.cables p y.b) p j.1) x.joins in
        let e : device_at (net_of parts) l ≡ y.b.device = device ∙ ap (λ p. p.device) (sym f) in
        subst (λ n. rank parts dst n < rank parts dst d) (sym e) r.0

guided-parts : (parts : Parts) → IsWired (net_of parts) → HasOwnPorts parts → IsGuided (net_of parts)
guided-parts parts v w = record {
  one_way = λ u d port. one-at-most (crossbar_to net u d port) (distinct-filter (λ l. same_actor (actor_of net (link_of net l).to) (egress d port)) (links_out net u Crossbar) (distinct-out net u Crossbar))
      (λ l k p q. one-cross parts v u d port l k (each-at (CrossTo net u d port) l (crossbar_to net u d port) (each-cross net v.ways u d port) p) (each-at (CrossTo net u d port) k (crossbar_to net u d port) (each-cross net v.ways u d port) q));
  one_out = λ u. few-out (links_out net u Cable) (links_out net u ToHost)
      (one-at-most (links_out net u Cable) (distinct-out net u Cable) (λ l k p q. one-cable parts v w u l k (out-of net u Cable l p) (out-of net u Cable k q)))
      (one-at-most (links_out net u ToHost) (distinct-out net u ToHost) (λ l k p q. one-to-host parts v w u l k (out-of net u ToHost l p) (out-of net u ToHost k q)))
      (λ l k p q. not-both parts v w u l k (out-of net u Cable l p) (out-of net u ToHost k q));
  one_in = λ a. one-at-most (links_out net a FromHost) (distinct-out net a FromHost) (λ l k p q. one-from-host parts v a l k (out-of net a FromHost l p) (out-of net a FromHost k q));
  nearer = λ u d port dst h. each-imp (CrossTo net u d port) (λ m. Each (λ l. rank parts dst (device_at net l) < rank parts dst d) (links_out net (link_of net m).to Cable)) (crossbar_to net u d port)
      (λ m c. each-imp (IsOut net (link_of net m).to Cable) (λ l. rank parts dst (device_at net l) < rank parts dst d) (links_out net (link_of net m).to Cable) (λ l o. leads-nearer parts v w u d port dst m l h c o) (v.ways.outs (link_of net m).to Cable))
      (each-cross net v.ways u d port);
  ranked = λ dst d. rank-below parts dst d w.some_device;
}
  where
    net : Net
    net = net_of parts

pub guided : (net : Net) → IsNet net → IsWired net → IsGuided net
guided net n = subst (λ m. IsWired m → IsGuided m) (sym n.made) (λ t. guided-parts net.parts t (own-ports net.parts n.right))

-- What a packet costs, by the distance of its host: two takes in each device on its way.

one-weigh : (f : ℕ → ℕ) (n : ℕ) (xs : List ℕ) → length xs ≤ 1 → Each (λ x. f x ≤ n) xs → weigh f xs ≤ n
one-weigh f n [] h e = omega arith
one-weigh f n (x ∷ []) h e = omega (arith, e.0)
one-weigh f n (x ∷ y ∷ xs) h e = absurd (omega (arith, h))

leaves : (into : ℕ → ℕ) (r : ℕ) (cs hs : List ℕ) → length cs + length hs ≤ 1 → Each (λ l. into l ≤ 2 * r + 1) cs → weigh into cs + length hs ≤ 2 * r + 1
leaves into r [] hs h e = omega (arith, h)
leaves into r (c ∷ []) hs h e = omega (arith, h, e.0)
leaves into r (c ∷ d ∷ cs) hs h e = absurd (omega (arith, h))

-- what a packet costs that enters a device
enter-near : (net : Net) → IsGuided net → (dst h l : ℕ) → enter_fare net dst h l ≤ 2 * rank net.parts dst (device_at net l) + 3
enter-near net g dst zero l = omega arith
enter-near net g dst (suc h) l = by_port (next_port net.parts (device_at net l) dst) refl (λ m. enter-near net g dst h m)
  where
    by_port : (o : Option ℕ) → next_port net.parts (device_at net l) dst ≡ o → ((m : ℕ) → enter_fare net dst h m ≤ 2 * rank net.parts dst (device_at net m) + 3)
        → suc (onward_fare net (link_of net l).to (device_at net l) (λ m. enter_fare net dst h m) o) ≤ 2 * rank net.parts dst (device_at net l) + 3
    by_port None q ih = omega arith
    by_port (Some x) q ih = let ls = crossbar_to net (link_of net l).to (device_at net l) x in
        let e : weigh (λ m. leave_fare net (λ m. enter_fare net dst h m) (link_of net m).to) ls ≤ 2 * rank net.parts dst (device_at net l) + 2
        = one-weigh (λ m. leave_fare net (λ m. enter_fare net dst h m) (link_of net m).to) (2 * rank net.parts dst (device_at net l) + 2) ls (g.one_way (link_of net l).to (device_at net l) x)
        (each-imp (λ m. Each (λ j. rank net.parts dst (device_at net j) < rank net.parts dst (device_at net l)) (links_out net (link_of net m).to Cable)) (λ m. leave_fare net (λ m. enter_fare net dst h m) (link_of net m).to ≤ 2 * rank net.parts dst (device_at net l) + 2) ls
        at_link (g.nearer (link_of net l).to (device_at net l) x dst q)) in
        omega (arith, e)
      where
        at_link : (m : ℕ) → Each (λ j. rank net.parts dst (device_at net j) < rank net.parts dst (device_at net l)) (links_out net (link_of net m).to Cable) → leave_fare net (λ m. enter_fare net dst h m) (link_of net m).to ≤ 2 * rank net.parts dst (device_at net l) + 2
        at_link m k = let y = leaves (λ m. enter_fare net dst h m) (rank net.parts dst (device_at net l)) (links_out net (link_of net m).to Cable) (links_out net (link_of net m).to ToHost) (g.one_out (link_of net m).to)
            (each-imp (λ j. rank net.parts dst (device_at net j) < rank net.parts dst (device_at net l)) (λ j. enter_fare net dst h j ≤ 2 * rank net.parts dst (device_at net l) + 1) (links_out net (link_of net m).to Cable) (λ j c. omega (arith, c, ih j)) k) in omega (arith, y)

frame-near : (net : Net) → IsGuided net → (l : ℕ) (b : List ℕ) → frame_fare net l b ≤ 2 * length net.parts.devices + 1
frame-near net g l b = at (actor_of net (link_of net l).to)
  where
    of_packet : (o : Option Packet) → frame_in net l o ≤ 2 * length net.parts.devices + 1
    of_packet None = omega arith
    of_packet (Some p) = omega (arith, enter-near net g p.dst p.hops l, g.ranked p.dst (device_at net l))

    of_side : (s : Side) → frame_side net l b s ≤ 2 * length net.parts.devices + 1
    of_side Ingress = of_packet (packet_of b)
    of_side Egress = omega arith

    at : (a : ActorId) → frame_to net l b a ≤ 2 * length net.parts.devices + 1
    at Observer = omega arith
    at (Control d) = omega arith
    at (OfUnit i) = of_side i.side
    at (OfHost x) = omega arith

-- a packet or raw frame in all: 2 D + 2
pub frame-costs : (net : Net) → IsGuided net → (a : ℕ) (b : List ℕ) → frame_price net a b ≤ 2 * length net.parts.devices + 2
frame-costs net g a b = let y = one-weigh (λ l. frame_fare net l b) (2 * length net.parts.devices + 1) (links_out net a FromHost) (g.one_in a) (each-of (λ l. frame_fare net l b ≤ 2 * length net.parts.devices + 1) (links_out net a FromHost) (λ l m. frame-near net g l b)) in
    omega (arith, y)

-- What all actors may start, by kinds.

abbrev pub observer_of : ActorId → ℕ
observer_of Observer = 1
observer_of _ = 0

abbrev pub channels_of : Net → ℕ → ActorId → ℕ
channels_of net a (OfUnit i) = length (channels net a)
channels_of net a _ = 0

abbrev pub frames_at : Setup → ActorId → ℕ
frames_at s (OfHost x) = length (frames_of s x)
frames_at s _ = 0

abbrev pub observers : Net → ℕ
observers net = weigh (λ a. observer_of (actor_of net a)) (below (length net.actors))

abbrev pub all_channels : Net → ℕ
all_channels net = weigh (λ a. channels_of net a (actor_of net a)) (below (length net.actors))

abbrev pub all_frames : Setup → ℕ
all_frames s = weigh (λ a. frames_at s (actor_of s.net a)) (below (length s.net.actors))

spread : (a b r : ℕ) → (a + b) * r ≡ a * r + b * r
spread a b r = omega arith

start-parts : (s : Setup) → IsGuided s.net → (xs : List ℕ) → weigh (λ a. start_credit s a (actor_of s.net a)) xs
    ≤ weigh (λ a. observer_of (actor_of s.net a)) xs * ((s.count + s.retries) * round_price s.net) + weigh (λ a. channels_of s.net a (actor_of s.net a)) xs * (4 * s.count) + weigh (λ a. frames_at s (actor_of s.net a)) xs * (2 * length s.net.parts.devices + 2)
start-parts s g [] = omega arith
start-parts s g (a ∷ xs) = omega (
  arith,
  at (actor_of s.net a),
  start-parts s g xs,
  spread (observer_of (actor_of s.net a)) (weigh (λ a. observer_of (actor_of s.net a)) xs) ((s.count + s.retries) * round_price s.net),
  spread (channels_of s.net a (actor_of s.net a)) (weigh (λ a. channels_of s.net a (actor_of s.net a)) xs) (4 * s.count),
  spread (frames_at s (actor_of s.net a)) (weigh (λ a. frames_at s (actor_of s.net a)) xs) (2 * length s.net.parts.devices + 2),
)
  where
    D : ℕ
    D = length s.net.parts.devices

    one : (x : ℕ) → x ≤ 1 * x + 0 * (4 * s.count) + 0 * (2 * length s.net.parts.devices + 2)
    one x = omega arith

    two : (x y : ℕ) → 4 * x * y ≤ 0 + y * (4 * x) + 0 * (2 * length s.net.parts.devices + 2)
    two x y = omega arith

    three : (x y : ℕ) → x * y ≡ y * x
    three x y = omega arith

    at : (i : ActorId) → start_credit s a i ≤ observer_of i * ((s.count + s.retries) * round_price s.net) + channels_of s.net a i * (4 * s.count) + frames_at s i * (2 * length s.net.parts.devices + 2)
    at Observer = omega (arith, one ((s.count + s.retries) * round_price s.net))
    at (Control d) = omega arith
    at (OfUnit i) = omega (arith, two s.count (length (channels s.net a)))
    at (OfHost x) = omega (arith, weigh-each (frame_price s.net a) (2 * length s.net.parts.devices + 2) (frames_of s x) (λ b. frame-costs s.net g a b), three (2 * length s.net.parts.devices + 2) (length (frames_of s x)))

pub start-by-kinds : (s : Setup) → IsGuided s.net
    → start_potential s ≤ observers s.net * ((s.count + s.retries) * round_price s.net) + all_channels s.net * (4 * s.count) + all_frames s * (2 * length s.net.parts.devices + 2)
start-by-kinds s g = start-parts s g (below (length s.net.actors))
