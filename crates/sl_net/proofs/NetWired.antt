-- The links of the net of valid parts: no two are one, each joins two actors of a kind, and the net is wired.
--     Joined x i            what the incoming link i of the actor x is
--     Linked parts b a s    the net's link of the sort s from the actor b to the actor a
--     into-links            the links into an actor are its incoming ones, in order
use Rattle.std.proofs.Common.{◌≡◌, ℕ, ◌<◌, ◌≤◌, List, [], ◌∷◌, ◌++◌, length, refl, sym, ap, subst, ◌∙◌, Option, Some, None, inl, inr, arith, eq-eqb, append-nil, zero, suc}
use Rattle.std.specs.Prelude.{◌⊎◌, true, map, flat_map, slice_get, cond, false, Bool, ◌==◌, nat_eq, filter, if◌then◌else◌}
use Rattle.std.proofs.lemmas.Bool.{cases_lt}
use Rattle.std.proofs.lemmas.List.{get_or_past}
use Rattle.sl_layout.specs.declared.actor.ActorId.{ActorId}
use Rattle.sl_layout.specs.declared.actor.ActorId.TheVariants.{Observer, Control, Unit as OfUnit, Host as OfHost}
use Rattle.sl_layout.specs.declared.actor.Side.{Side}
use Rattle.sl_layout.specs.declared.actor.Side.TheVariants.{Ingress, Egress}
use Rattle.sl_layout.specs.declared.actor.Sort.{Sort}
use Rattle.sl_layout.specs.declared.actor.Sort.TheVariants.{FromHost, Cable, Crossbar, Init, Poll, Notice, Dump, Begin, Done, ToHost}
use Rattle.sl_layout.specs.declared.actor.LinkPart.{LinkPart}
use Rattle.sl_parts.specs.declared.parts.PortRef.{PortRef}
use Rattle.sl_parts.specs.Parts.{Parts, below, other_end, host_at, used_ports, ports_of, is_used}
use Rattle.sl_layout.specs.Net.{net_of, link_of, actor_of, nobody, no_link, ingress, egress, units_of, actors_of, Incoming, incoming, unit_incoming, from_outside, from_host_or_cable, to_host, place_of, links_to, link_numbers, links_into, links_from, links_out, choice_of, same_sort}
use Rattle.sl_parts.specs.Valid.{IsValid}
use Rattle.sl_layout.specs.Roster.{IsActor}
use Rattle.sl_net.specs.Wired.{home, is_inner, sends, receives, Reports}
use Rattle.sl_parts.specs.Lists.{Each, Member}
use Rattle.sl_parts.proofs.Lists.{each-append, each-map, each-imp, each-flat, each-of, each-at, each-index, member-flat, member-map, distinct-append, distinct-filter, distinct-from, member-of-map, place-of-member, distinct-map, distinct-joined, one-place, Distinct, member-right, member-from, member-filter, only-one}
use Rattle.sl_layout.proofs.Actors.{actor-member, each-actor, actor-at, actors-distinct, place-at, units-distinct, each-unit-of, IsSender, IsLink, each-sender, each-link}
use Rattle.std.proofs.lemmas.Bool.Decides.{eqb_tells}
use Rattle.sl_layout.specs.declared.actor.UnitId.{UnitId}
use Rattle.sl_parts.specs.declared.fault.NetFault.{NetFault}
use Rattle.sl_parts.specs.Fault.{first_of, fault_of, no_device, too_many_devices, wrong_ports, stray_cable, stray_host, reused_port, too_many_hosts, used_host_port, device_namesake, host_namesake, first_clash, reuses_port, takes_used_port, device_named, host_named}
use Rattle.sl_parts.proofs.Checked.{valid_from, few_hosts, none-under}
use Rattle.sl_net.specs.Ways.{IsOut}
use Rattle.std.proofs.lemmas.List.Elements.{filter-append}
use Rattle.sl_net.proofs.Sorts.{at-numbers, each-out, out-member, is-link, is-into, one-choice, choice-takes, choice-is, one-unit, only-is-out, only-out, taken-at, choice-from-is, served-here, served-elsewhere}
use Rattle.sl_net.proofs.EndKinds.{notice-receiver, dump-receiver, begin-receiver, done-receiver, poll-sender, begin-sender}
use Rattle.sl_parts.specs.declared.fault.NetFault.TheVariants.{N1}

-- Actors by their places.

pub same-place : (parts : Parts) (a b : ActorId) → IsActor parts a → IsActor parts b → place_of a (actors_of parts) ≡ place_of b (actors_of parts) → a ≡ b
same-place parts a b h k q = sym (actor-at parts a h) ∙ ap (actor_of (net_of parts)) q ∙ actor-at parts b k

-- an actor of the net that is not the default is one of the parts, at its own place
pub record IsAt (parts : Parts) (a : ℕ) (x : ActorId) : Type 0 where
  pub actor : IsActor parts x
  pub place : place_of x (actors_of parts) ≡ a

pub is-at : (parts : Parts) (a : ℕ) (x : ActorId) → actor_of (net_of parts) a ≡ x → (x ≡ nobody → ⊥) → IsAt parts a x
is-at parts a x q ne = by_cases (cases_lt a (length (actors_of parts)))
  where
    by_cases : (a < length (actors_of parts)) ⊎ (length (actors_of parts) ≤ a) → IsAt parts a x
    by_cases (inl h) = record { actor = subst (IsActor parts) q (each-index (IsActor parts) (actors_of parts) a nobody (each-actor parts) h); place = ap (λ x. place_of x (actors_of parts)) (sym q) ∙ place-at parts a h }
    by_cases (inr h) = absurd (ne (sym q ∙ get_or_past (actors_of parts) a nobody h))

-- What comes to an actor.

abbrev port_of : ActorId → ℕ
port_of (OfUnit u) = u.port
port_of _ = 0

pub record Joined (x : ActorId) (i : Incoming) : Type 0 where
  pub sent : sends i.0 i.1 ≡ true
  pub received : receives x i.1 ≡ true
  pub inner : is_inner i.1 ≡ true → home i.0 ≡ home x

outside-joined : (parts : Parts) (d p : ℕ) → Each (Joined (ingress d p)) (from_outside parts (record { device = d; port = p }))
outside-joined parts d p = by_ends (host_at parts (record { device = d; port = p })) (other_end parts.cables (record { device = d; port = p }))
  where
    by_ends : (x : Option ℕ) (y : Option PortRef) → Each (Joined (ingress d p)) (from_host_or_cable x y)
    by_ends (Some h) y = (record { sent = refl; received = refl; inner = λ q. absurd cc }, tt)
    by_ends None (Some e) = (record { sent = refl; received = refl; inner = λ q. absurd cc }, tt)
    by_ends None None = tt

unit-joined : (parts : Parts) (d p : ℕ) (s : Side) → Each (Joined (OfUnit (record { device = d; port = p; side = s }))) (unit_incoming parts d p s)
unit-joined parts d p Ingress = each-append (Joined (ingress d p)) (from_outside parts (record { device = d; port = p })) ((Control d, Init) ∷ (Control d, Poll) ∷ []) (outside-joined parts d p)
    (record { sent = refl; received = refl; inner = λ q. refl }, (record { sent = refl; received = refl; inner = λ q. refl }, tt))
unit-joined parts d p Egress = each-append (Joined (egress d p)) (map (λ q. (ingress d q, Crossbar)) (used_ports parts d)) ((Control d, Poll) ∷ [])
    (each-map (Joined (egress d p)) (λ q. (ingress d q, Crossbar)) (used_ports parts d) (each-of (λ q. Joined (egress d p) (ingress d q, Crossbar)) (used_ports parts d) (λ q m. record { sent = refl; received = refl; inner = λ q. refl })))
    (record { sent = refl; received = refl; inner = λ q. refl }, tt)

-- the reports of a unit
abbrev pub reports_of : ActorId → List Incoming
reports_of u = (u, Notice) ∷ (u, Dump) ∷ []

pub each-joined : (parts : Parts) (x : ActorId) → Each (Joined x) (incoming parts x)
each-joined parts Observer = each-map (Joined Observer) (λ d. (Control d, Done)) (below (length parts.devices)) (each-of (λ d. Joined Observer (Control d, Done)) (below (length parts.devices)) (λ d m. record { sent = refl; received = refl; inner = λ q. absurd cc }))
each-joined parts (Control d) = (
  record { sent = refl; received = refl; inner = λ q. absurd cc },
  each-flat (Joined (Control d)) reports_of (units_of parts d) (each-unit-of parts d (λ u. Each (Joined (Control d)) (reports_of u))
      (λ p. ((record { sent = refl; received = refl; inner = λ q. refl }, (record { sent = refl; received = refl; inner = λ q. refl }, tt)), (record { sent = refl; received = refl; inner = λ q. refl }, (record { sent = refl; received = refl; inner = λ q. refl }, tt))))),
)
each-joined parts (OfUnit u) = unit-joined parts u.device u.port u.side
each-joined parts (OfHost h) = by_port (slice_get (map (λ part. part.at) parts.hosts) h)
  where
    by_port : (o : Option PortRef) → Each (Joined (OfHost h)) (to_host o)
    by_port None = tt
    by_port (Some p) = (record { sent = refl; received = refl; inner = λ q. absurd cc }, tt)

-- No two of them are one.

control-distinct : (parts : Parts) (d : ℕ) → Distinct ((Observer, Begin) ∷ flat_map reports_of (units_of parts d))
control-distinct parts d = (
  (λ m. each-at (λ i. i.1 ≡ Begin → ⊥) (Observer, Begin) (flat_map reports_of (units_of parts d)) (each-flat (λ i. i.1 ≡ Begin → ⊥) reports_of (units_of parts d) (each-of (λ u. Each (λ i. i.1 ≡ Begin → ⊥) (reports_of u)) (units_of parts d) (λ u n. ((λ q. cc), ((λ q. cc), tt))))) m refl),
  distinct-joined reports_of (units_of parts d) (λ x y b p q m n. sym (first x b m) ∙ first y b n) (units-distinct parts d) (each-of (λ u. Distinct (reports_of u)) (units_of parts d) (λ u m. two u)),
)
  where
    first : (u : ActorId) (b : Incoming) → Member b (reports_of u) → b.0 ≡ u
    first u b (inl q) = ap (λ i. i.0) q
    first u b (inr (inl q)) = ap (λ i. i.0) q
    first u b (inr (inr m)) = absurd m

    two : (u : ActorId) → Distinct (reports_of u)
    two u = ((λ m. by_member m), ((λ m. m), tt))
      where
        by_member : Member {A = Incoming} (u, Notice) ((u, Dump) ∷ []) → ⊥
        by_member (inl q) = let z : Notice ≡ Dump = ap (λ i. i.1) q in absurd cc
        by_member (inr m) = m

unit-distinct : (parts : Parts) (d p : ℕ) (s : Side) → Distinct (unit_incoming parts d p s)
unit-distinct parts d p Ingress = by_ends (host_at parts (record { device = d; port = p })) (other_end parts.cables (record { device = d; port = p }))
  where
    none : (x : ActorId) (s : Sort) → (s ≡ Init → ⊥) → (s ≡ Poll → ⊥) → Member {A = Incoming} (x, s) ((Control d, Init) ∷ (Control d, Poll) ∷ []) → ⊥
    none x s n k (inl q) = n (ap (λ i. i.1) q)
    none x s n k (inr (inl q)) = k (ap (λ i. i.1) q)
    none x s n k (inr (inr m)) = m

    last : Distinct {A = Incoming} ((Control d, Init) ∷ (Control d, Poll) ∷ [])
    last = ((λ m. by_member m), ((λ m. m), tt))
      where
        by_member : Member {A = Incoming} (Control d, Init) ((Control d, Poll) ∷ []) → ⊥
        by_member (inl q) = let z : Init ≡ Poll = ap (λ i. i.1) q in absurd cc
        by_member (inr m) = m

    by_ends : (x : Option ℕ) (y : Option PortRef) → Distinct (from_host_or_cable x y ++ (Control d, Init) ∷ (Control d, Poll) ∷ [])
    by_ends (Some h) y = ((λ m. none (OfHost h) FromHost (λ q. cc) (λ q. cc) m), last)
    by_ends None (Some e) = ((λ m. none (egress e.device e.port) Cable (λ q. cc) (λ q. cc) m), last)
    by_ends None None = last
unit-distinct parts d p Egress = distinct-append (map (λ q. (ingress d q, Crossbar)) (used_ports parts d)) ((Control d, Poll) ∷ [])
    (distinct-map (λ q. (ingress d q, Crossbar)) (used_ports parts d) (λ x y m n q. ap (λ i. port_of i.0) q) (distinct-filter (λ p. is_used parts (record { device = d; port = p })) (below (ports_of parts d)) (distinct-from 0 (ports_of parts d))))
    ((λ m. m), tt) (λ x m n. let r = member-of-map (λ q. (ingress d q, Crossbar)) x (used_ports parts d) m in by_member x (ap (λ i. i.1) r.2) n)
  where
    by_member : (x : Incoming) → x.1 ≡ Crossbar → Member x ((Control d, Poll) ∷ []) → ⊥
    by_member x q (inl h) = let z : Crossbar ≡ Poll = sym q ∙ ap (λ i. i.1) h in absurd cc
    by_member x q (inr m) = m

pub incoming-distinct : (parts : Parts) (x : ActorId) → Distinct (incoming parts x)
incoming-distinct parts Observer = distinct-map (λ d. (Control d, Done)) (below (length parts.devices)) (λ x y m n q. ap (λ i. home i.0) q) (distinct-from 0 (length parts.devices))
incoming-distinct parts (Control d) = control-distinct parts d
incoming-distinct parts (OfUnit u) = unit-distinct parts u.device u.port u.side
incoming-distinct parts (OfHost h) = by_port (slice_get (map (λ part. part.at) parts.hosts) h)
  where
    by_port : (o : Option PortRef) → Distinct (to_host o)
    by_port None = tt
    by_port (Some p) = ((λ m. m), tt)

-- Links.

abbrev pub link_from : Parts → ActorId → Incoming → LinkPart
link_from parts x i = record { from = place_of i.0 (actors_of parts); to = place_of x (actors_of parts); sort = i.1 }

pub links-distinct : (parts : Parts) → IsValid parts → Distinct (net_of parts).links
links-distinct parts v = distinct-joined (λ x. links_to parts (actors_of parts) x) (actors_of parts)
    (λ x y k m n p q. let a = member-of-map (link_from parts x) k (incoming parts x) p in let b = member-of-map (link_from parts y) k (incoming parts y) q in
    same-place parts x y (each-at (IsActor parts) x (actors_of parts) (each-actor parts) m) (each-at (IsActor parts) y (actors_of parts) (each-actor parts) n) (ap (λ k. k.to) (sym a.2 ∙ b.2)))
    (actors-distinct parts)
    (each-imp (IsActor parts) (λ x. Distinct (links_to parts (actors_of parts) x)) (actors_of parts) (λ x h. distinct-map (link_from parts x) (incoming parts x)
    (λ i j m n q. let z : i.0 ≡ j.0 = same-place parts i.0 j.0 (each-at (IsSender parts) i (incoming parts x) (each-sender parts x v h) m).0 (each-at (IsSender parts) j (incoming parts x) (each-sender parts x v h) n).0 (ap (λ k. k.from) q) in
    let t : i.1 ≡ j.1 = ap (λ k. k.sort) q in ap (λ a. (a, i.1)) z ∙ ap (λ s. (j.0, s)) t) (incoming-distinct parts x)) (each-actor parts))

-- a link of the net, by its ends
pub record Linked (parts : Parts) (b a : ActorId) (s : Sort) : Type 0 where
  pub link : ℕ
  pub is_link : link < length (net_of parts).links
  pub is : link_of (net_of parts) link ≡ link_from parts a (b, s)

pub linked : (parts : Parts) (b a : ActorId) (s : Sort) → IsActor parts a → Member (b, s) (incoming parts a) → Linked parts b a s
linked parts b a s h m = let r = place-of-member (link_from parts a (b, s)) (net_of parts).links
    (member-flat (λ x. links_to parts (actors_of parts) x) a (link_from parts a (b, s)) (actors_of parts) (actor-member parts a h) (member-map (link_from parts a) (b, s) (incoming parts a) m)) in
    record { link = r.0; is_link = r.1; is = r.2 no_link }

-- two numbers of one link are one
pub one-link : (parts : Parts) (l k : ℕ) → IsValid parts → l < length (net_of parts).links → k < length (net_of parts).links → link_of (net_of parts) l ≡ link_of (net_of parts) k → l ≡ k
one-link parts l k v p q h = one-place (net_of parts).links l k no_link (links-distinct parts v) p q h

-- the ends of a link of the net
pub record Ends (parts : Parts) (l : ℕ) : Type 0 where
  pub sender : ActorId
  pub receiver : ActorId
  pub is_sender : IsActor parts sender
  pub is_receiver : IsActor parts receiver
  pub is : link_of (net_of parts) l ≡ link_from parts receiver (sender, (link_of (net_of parts) l).sort)
  pub from : actor_of (net_of parts) (link_of (net_of parts) l).from ≡ sender
  pub to : actor_of (net_of parts) (link_of (net_of parts) l).to ≡ receiver
  pub joined : Joined receiver (sender, (link_of (net_of parts) l).sort)
  pub listed : Member (sender, (link_of (net_of parts) l).sort) (incoming parts receiver)

pub ends : (parts : Parts) (l : ℕ) → IsValid parts → l < length (net_of parts).links → Ends parts l
ends parts l v p = of_link (each-index (IsLink parts) (net_of parts).links l no_link (each-link parts v) p)
  where
    of_link : IsLink parts (link_of (net_of parts) l) → Ends parts l
    of_link k = let x = link_of (net_of parts) l in record {
      sender = k.sender;
      receiver = k.receiver;
      is_sender = k.is_sender;
      is_receiver = k.is_receiver;
      is = ap (λ n. record { from = n; to = x.to; sort = x.sort }) k.from ∙ ap (λ n. record { from = place_of k.sender (actors_of parts); to = n; sort = x.sort }) k.to;
      from = ap (actor_of (net_of parts)) k.from ∙ actor-at parts k.sender k.is_sender;
      to = ap (actor_of (net_of parts)) k.to ∙ actor-at parts k.receiver k.is_receiver;
      listed = k.listed;
      joined = each-at (Joined k.receiver) (k.sender, x.sort) (incoming parts k.receiver) (each-joined parts k.receiver) k.listed;
    }

-- The net of valid parts is wired.
--     into-links      the links into an actor are its incoming ones, in order

-- The links into an actor.

filter-all : (t : LinkPart → Bool) (ks : List LinkPart) → Each (λ k. t k ≡ true) ks → filter t ks ≡ ks
filter-all t [] e = refl
filter-all t (k ∷ ks) e = ap (λ b. cond b (k ∷ filter t ks) (filter t ks)) e.0 ∙ ap (λ r. k ∷ r) (filter-all t ks e.1)

pub filter-none : (t : LinkPart → Bool) (ks : List LinkPart) → Each (λ k. t k ≡ false) ks → filter t ks ≡ []
filter-none t [] e = refl
filter-none t (k ∷ ks) e = ap (λ b. cond b (k ∷ filter t ks) (filter t ks)) e.0 ∙ filter-none t ks e.1

none-of : (t : LinkPart → Bool) (f : ActorId → List LinkPart) (xs : List ActorId) → ((x : ActorId) → Member x xs → filter t (f x) ≡ []) → filter t (flat_map f xs) ≡ []
none-of t f [] h = refl
none-of t f (x ∷ xs) h = filter-append t (f x) (flat_map f xs) ∙ ap (λ r. r ++ filter t (flat_map f xs)) (h x (inl refl)) ∙ none-of t f xs (λ y m. h y (inr m))

one-of : (t : LinkPart → Bool) (f : ActorId → List LinkPart) (a : ActorId) (xs : List ActorId) → Distinct xs → Member a xs → filter t (f a) ≡ f a → ((x : ActorId) → Member x xs → (x ≡ a → ⊥) → filter t (f x) ≡ [])
    → filter t (flat_map f xs) ≡ f a
one-of t f a [] d m e h = absurd m
one-of t f a (x ∷ xs) d (inl q) e h = filter-append t (f x) (flat_map f xs) ∙ ap (λ r. filter t (f x) ++ r) (none-of t f xs (λ y m. h y (inr m) (λ z. d.0 (subst (λ y. Member y xs) (z ∙ q) m))))
    ∙ append-nil (filter t (f x)) ∙ subst (λ x. filter t (f x) ≡ f a) q e
one-of t f a (x ∷ xs) d (inr m) e h = filter-append t (f x) (flat_map f xs) ∙ ap (λ r. r ++ filter t (flat_map f xs)) (h x (inl refl) (λ z. d.0 (subst (λ y. Member y xs) (sym z) m)))
    ∙ one-of t f a xs d.1 m e (λ y k. h y (inr k))

-- the links into an actor are its incoming ones, in order
pub into-links : (parts : Parts) (a : ActorId) → IsActor parts a → map (link_of (net_of parts)) (links_into (net_of parts) (place_of a (actors_of parts))) ≡ links_to parts (actors_of parts) a
into-links parts a h = let n = place_of a (actors_of parts) in let f = λ (x : ActorId). links_to parts (actors_of parts) x in
    at-numbers (λ k. k.to == n) no_link (net_of parts).links
    ∙ one-of (λ k. k.to == n) f a (actors_of parts) (actors-distinct parts) (actor-member parts a h) (filter-all (λ k. k.to == n) (f a) (to_each a true (eq-eqb n n refl)))
    (λ x m ne. filter-none (λ k. k.to == n) (f x) (to_each x false (by_tells (eqb_tells (place_of x (actors_of parts)) n) (λ z. ne (same x m z)))))
  where
    to_each : (x : ActorId) (b : Bool) → (place_of x (actors_of parts) == place_of a (actors_of parts)) ≡ b → Each (λ k. (k.to == place_of a (actors_of parts)) ≡ b) (links_to parts (actors_of parts) x)
    to_each x b q = each-map (λ k. (k.to == place_of a (actors_of parts)) ≡ b) (λ i. record { from = place_of i.0 (actors_of parts); to = place_of x (actors_of parts); sort = i.1 }) (incoming parts x)
        (each-of (λ i. (place_of x (actors_of parts) == place_of a (actors_of parts)) ≡ b) (incoming parts x) (λ i m. q))

    same : (x : ActorId) → Member x (actors_of parts) → place_of x (actors_of parts) ≡ place_of a (actors_of parts) → x ≡ a
    same x m z = sym (actor-at parts x (each-at (IsActor parts) x (actors_of parts) (each-actor parts) m)) ∙ ap (actor_of (net_of parts)) z ∙ actor-at parts a h

    by_tells : {x y : ℕ} → ((nat_eq x y ≡ true) × (x ≡ y)) ⊎ ((nat_eq x y ≡ false) × (x ≡ y → ⊥)) → (x ≡ y → ⊥) → nat_eq x y ≡ false
    by_tells (inl q) ne = absurd (ne q.1)
    by_tells (inr q) ne = q.0

-- One link of a sort.

-- a link of the sort from b to a is the one that there is
same-link : (parts : Parts) (b a : ActorId) (s : Sort) (k : Linked parts b a s) (l : ℕ) → IsValid parts → l < length (net_of parts).links → (link_of (net_of parts) l).sort ≡ s → (e : Ends parts l) → e.sender ≡ b → e.receiver ≡ a → l ≡ k.link
same-link parts b a s k l v p q e x y = one-link parts l k.link v p k.is_link
    (e.is ∙ ap (λ r. link_from parts r (e.sender, (link_of (net_of parts) l).sort)) y ∙ ap (λ r. link_from parts a (r, (link_of (net_of parts) l).sort)) x ∙ ap (λ r. link_from parts a (b, r)) q ∙ sym k.is)

-- where all links of the sort from b lead to a, there is one
one-out : (parts : Parts) (n : ℕ) (b a : ActorId) (s : Sort) (k : Linked parts b a s) → IsValid parts → IsActor parts b → place_of b (actors_of parts) ≡ n → ((y : ActorId) → Joined y (b, s) → y ≡ a)
    → links_out (net_of parts) n s ≡ k.link ∷ []
one-out parts n b a s k v h z only = only-one k.link (links_out (net_of parts) n s)
    (distinct-filter (λ l. same_sort (link_of (net_of parts) l).sort s) (links_from (net_of parts) n) (distinct-filter (λ l. (link_of (net_of parts) l).from == n) (link_numbers (net_of parts)) (distinct-from 0 (length (net_of parts).links))))
    (out-member (net_of parts) n s k.link (record { is_link = k.is_link; from = ap (λ x. x.from) k.is ∙ z; sort = ap (λ x. x.sort) k.is }))
    (each-imp (IsOut (net_of parts) n s) (λ l. l ≡ k.link) (links_out (net_of parts) n s) (λ l o. of_ends l o (ends parts l v o.is_link)) (each-out (net_of parts) n s))
  where
    of_ends : (l : ℕ) → IsOut (net_of parts) n s l → Ends parts l → l ≡ k.link
    of_ends l o e = let x : e.sender ≡ b = same-place parts e.sender b e.is_sender h (sym (ap (λ x. x.from) e.is) ∙ o.from ∙ sym z) in
        same-link parts b a s k l v o.is_link o.sort e x (only e.receiver (subst (λ t. Joined e.receiver (b, t)) o.sort (subst (λ r. Joined e.receiver (r, (link_of (net_of parts) l).sort)) x e.joined)))

-- Units.

unit-of : (parts : Parts) (i : UnitId) → IsActor parts (OfUnit i) → Member (OfUnit i) (units_of parts i.device)
unit-of parts i h = of_side i.side refl
  where
    of_both : Member (OfUnit i) (ingress i.device i.port ∷ egress i.device i.port ∷ []) → Member (OfUnit i) (units_of parts i.device)
    of_both m = member-flat (λ p. ingress i.device p ∷ egress i.device p ∷ []) i.port (OfUnit i) (used_ports parts i.device)
        (member-filter (λ p. is_used parts (record { device = i.device; port = p })) i.port (below (ports_of parts i.device)) (member-from i.port 0 (ports_of parts i.device) (omega arith) (let z : i.port < ports_of parts i.device = h.1 in omega arith)) h.2) m

    of_side : (x : Side) → i.side ≡ x → Member (OfUnit i) (units_of parts i.device)
    of_side Ingress q = of_both (inl (ap (λ x. OfUnit (record { device = i.device; port = i.port; side = x })) q))
    of_side Egress q = of_both (inr (inl (ap (λ x. OfUnit (record { device = i.device; port = i.port; side = x })) q)))

report-member : (parts : Parts) (i : UnitId) (s : Sort) → IsActor parts (OfUnit i) → Member (OfUnit i, s) (reports_of (OfUnit i)) → Member (OfUnit i, s) (incoming parts (Control i.device))
report-member parts i s h m = inr (member-flat reports_of (OfUnit i) (OfUnit i, s) (units_of parts i.device) (unit-of parts i h) m)

poll-member : (parts : Parts) (i : UnitId) → Member (Control i.device, Poll) (incoming parts (OfUnit i))
poll-member parts i = of_side i.side
  where
    of_side : (s : Side) → Member (Control i.device, Poll) (unit_incoming parts i.device i.port s)
    of_side Ingress = member-right (Control i.device, Poll) (from_outside parts (record { device = i.device; port = i.port })) ((Control i.device, Init) ∷ (Control i.device, Poll) ∷ []) (inr (inl refl))
    of_side Egress = member-right (Control i.device, Poll) (map (λ q. (ingress i.device q, Crossbar)) (used_ports parts i.device)) ((Control i.device, Poll) ∷ []) (inl refl)

done-member : (parts : Parts) (d : ℕ) → d < length parts.devices → Member (Control d, Done) (incoming parts Observer)
done-member parts d h = member-map (λ d. (Control d, Done)) d (below (length parts.devices)) (member-from d 0 (length parts.devices) (omega arith) (omega arith))

pub reports : (parts : Parts) (u : ℕ) (i : UnitId) → IsValid parts → actor_of (net_of parts) u ≡ OfUnit i → Reports (net_of parts) u
reports parts u i v q = of_at (is-at parts u (OfUnit i) q (λ e. cc))
  where
    of_at : IsAt parts u (OfUnit i) → Reports (net_of parts) u
    of_at t = let h : IsActor parts (OfUnit i) = t.actor in
        let c : IsActor parts (Control i.device) = h.0 in
        let a = place_of (Control i.device) (actors_of parts) in
        let notice = linked parts (OfUnit i) (Control i.device) Notice c (report-member parts i Notice h (inl refl)) in
        let dump = linked parts (OfUnit i) (Control i.device) Dump c (report-member parts i Dump h (inr (inl refl))) in
        let poll = linked parts (Control i.device) (OfUnit i) Poll h (poll-member parts i) in
        let done = linked parts (Control i.device) Observer Done tt (done-member parts i.device c) in
        let notices : links_out (net_of parts) u Notice ≡ notice.link ∷ [] = one-out parts u (OfUnit i) (Control i.device) Notice notice v h t.place (λ y j. notice-receiver y j.received ∙ ap Control (sym (j.inner refl))) in
        let dumps : links_out (net_of parts) u Dump ≡ dump.link ∷ [] = one-out parts u (OfUnit i) (Control i.device) Dump dump v h t.place (λ y j. dump-receiver y j.received ∙ ap Control (sym (j.inner refl))) in
        let dones : links_out (net_of parts) a Done ≡ done.link ∷ [] = one-out parts a (Control i.device) Observer Done done v c refl (λ y j. done-receiver y j.received) in
        let notice_to : (link_of (net_of parts) notice.link).to ≡ a = ap (λ k. k.to) notice.is in
        let dump_to : (link_of (net_of parts) dump.link).to ≡ a = ap (λ k. k.to) dump.is in
        let done_to : (link_of (net_of parts) done.link).to ≡ 0 = ap (λ k. k.to) done.is in
        let poll_from : (link_of (net_of parts) poll.link).from ≡ a = ap (λ k. k.from) poll.is in
        let poll_to : (link_of (net_of parts) poll.link).to ≡ u = ap (λ k. k.to) poll.is ∙ t.place in
        let polled : (l : ℕ) → (link_of (net_of parts) l).to ≡ u → (link_of (net_of parts) l).sort ≡ Poll → l ≡ poll.link = λ l to s. of_poll poll l to s t (is-link (net_of parts) l (λ z. let w : Poll ≡ ToHost = sym s ∙ z in cc)) in
        record {
          control = a;
          device = i.device;
          is_control = actor-at parts (Control i.device) c;
          notice = notice.link;
          notices = notices;
          notice_to = notice_to;
          dump = dump.link;
          dumps = dumps;
          dump_to = dump_to;
          poll = poll.link;
          polled = polled;
          poll_link = poll.is_link;
          poll_sort = ap (λ k. k.sort) poll.is;
          poll_from = poll_from;
          poll_to = poll_to;
          done = done.link;
          dones = dones;
          done_to = done_to;
          notice_out = only-is-out (net_of parts) u Notice notice.link notices;
          dump_out = only-is-out (net_of parts) u Dump dump.link dumps;
          done_out = only-is-out (net_of parts) a Done done.link dones;
          polls = each-out (net_of parts) a Poll;
          poll_listed = out-member (net_of parts) a Poll poll.link (record { is_link = poll.is_link; from = poll_from; sort = ap (λ k. k.sort) poll.is });
          one_done = λ l o. only-out (net_of parts) a Done done.link l dones o;
          notice_taken = taken-at (net_of parts) u a Notice notice.link notices notice_to;
          dump_taken = taken-at (net_of parts) u a Dump dump.link dumps dump_to;
          poll_taken = subst (λ b. slice_get (links_into (net_of parts) b) (choice_of (net_of parts) poll.link) ≡ Some poll.link) poll_to (choice-takes (net_of parts) poll.link poll.is_link);
          done_taken = taken-at (net_of parts) a 0 Done done.link dones done_to;
          poll_choice = λ c l k s. let x = is-into (net_of parts) u c l k in sym (choice-is (net_of parts) u c l k) ∙ ap (choice_of (net_of parts)) (polled l x.to s);
          one_unit = λ x e. one-unit (net_of parts) u x i q e;
          notice_choice = choice-from-is (net_of parts) a u Notice notice.link notices notice_to;
          dump_choice = choice-from-is (net_of parts) a u Dump dump.link dumps dump_to;
          served_here = served-here (net_of parts) u a dump.link dumps dump_to;
          served_elsewhere = λ b ne. served-elsewhere (net_of parts) u a poll.link b polled poll_from ne;
        }
      where
        of_poll : (k : Linked parts (Control i.device) (OfUnit i) Poll) (l : ℕ) → (link_of (net_of parts) l).to ≡ u → (link_of (net_of parts) l).sort ≡ Poll → IsAt parts u (OfUnit i) → l < length (net_of parts).links → l ≡ k.link
        of_poll k l to s t p = let e = ends parts l v p in
            let y : e.receiver ≡ OfUnit i = sym e.to ∙ ap (actor_of (net_of parts)) to ∙ q in
            let j : Joined (OfUnit i) (e.sender, Poll) = subst (λ s. Joined (OfUnit i) (e.sender, s)) s (subst (λ r. Joined r (e.sender, (link_of (net_of parts) l).sort)) y e.joined) in
            same-link parts (Control i.device) (OfUnit i) Poll k l v p s e (poll-sender e.sender j.sent ∙ ap Control (j.inner refl)) y

-- Begins.

first-link : (f : ℕ → LinkPart) (xs : List ℕ) (k : LinkPart) (ks : List LinkPart) → map f xs ≡ k ∷ ks → (l : ℕ) × (slice_get xs 0 ≡ Some l) × (f l ≡ k)
first-link f [] k ks h = absurd cc
first-link f (x ∷ xs) k ks h = (x, refl, cc)

pub begins : (parts : Parts) (a d : ℕ) → actor_of (net_of parts) a ≡ Control d → (l : ℕ) × (slice_get (links_into (net_of parts) a) 0 ≡ Some l) × ((link_of (net_of parts) l).sort ≡ Begin)
begins parts a d q = let i = is-at parts a (Control d) q (λ e. cc) in
    let f = first-link (link_of (net_of parts)) (links_into (net_of parts) (place_of (Control d) (actors_of parts))) _ _ (into-links parts (Control d) i.actor) in
    (f.0, subst (λ a. slice_get (links_into (net_of parts) a) 0 ≡ Some f.0) i.place f.1, ap (λ k. k.sort) f.2)

pub begin-first : (parts : Parts) (a c l : ℕ) → IsValid parts → slice_get (links_into (net_of parts) a) c ≡ Some l → (link_of (net_of parts) l).sort ≡ Begin → c ≡ 0
begin-first parts a c l v k q = let i = is-into (net_of parts) a c l k in let e = ends parts l v i.is_link in
    let j : receives e.receiver Begin ≡ true = subst (λ s. receives e.receiver s ≡ true) q e.joined.received in
    let x : actor_of (net_of parts) a ≡ Control (home e.receiver) = ap (actor_of (net_of parts)) (sym i.to) ∙ e.to ∙ begin-receiver e.receiver j in
    of_first e (begins parts a (home e.receiver) x)
  where
    of_first : Ends parts l → ((m : ℕ) × (slice_get (links_into (net_of parts) a) 0 ≡ Some m) × ((link_of (net_of parts) m).sort ≡ Begin)) → c ≡ 0
    of_first e f = let i = is-into (net_of parts) a c l k in let n = is-into (net_of parts) a 0 f.0 f.1 in let g = ends parts f.0 v n.is_link in
        let x : e.sender ≡ g.sender = begin-sender e.sender (subst (λ s. sends e.sender s ≡ true) q e.joined.sent) ∙ sym (begin-sender g.sender (subst (λ s. sends g.sender s ≡ true) f.2 g.joined.sent)) in
        let y : e.receiver ≡ g.receiver = sym e.to ∙ ap (actor_of (net_of parts)) (i.to ∙ sym n.to) ∙ g.to in
        let z : l ≡ f.0 = one-link parts l f.0 v i.is_link n.is_link (e.is ∙ ap (λ r. link_from parts r (e.sender, (link_of (net_of parts) l).sort)) y ∙ ap (λ r. link_from parts g.receiver (r, (link_of (net_of parts) l).sort)) x
        ∙ ap (λ s. link_from parts g.receiver (g.sender, s)) (q ∙ sym f.2) ∙ sym g.is) in
        one-choice (net_of parts) a c 0 l k (subst (λ m. slice_get (links_into (net_of parts) a) 0 ≡ Some m) (sym z) f.1)

-- Parts without a fault are valid.

none-first : {A : Type 0} (xs : List (Option A)) → first_of xs ≡ None → Each (λ o. o ≡ None) xs
none-first [] h = tt
none-first (None ∷ xs) h = (refl, none-first xs h)
none-first (Some x ∷ xs) h = absurd cc

abbrev reasons : Parts → List (Option NetFault)
reasons parts = no_device parts ∷ too_many_devices parts ∷ wrong_ports parts ∷ stray_cable parts ∷ stray_host parts ∷ reused_port parts ∷ too_many_hosts parts ∷ used_host_port parts ∷ device_namesake parts ∷ host_namesake parts ∷ []

-- each reason is absent
pub no-reason : (parts : Parts) → fault_of parts ≡ None → Each (λ o. o ≡ None) (reasons parts)
no-reason parts h = none-first (reasons parts) h

-- what follows
pub record IsFaultless (parts : Parts) : Type 0 where
  pub valid : IsValid parts
  pub some_device : 0 < length parts.devices
  pub few_hosts : length parts.hosts ≤ 128
  pub cables_apart : first_clash reuses_port [] parts.cables ≡ None
  pub hosts_apart : first_clash (takes_used_port parts) [] parts.hosts ≡ None
  pub devices_named_apart : first_clash device_named [] parts.devices ≡ None
  pub hosts_named_apart : first_clash host_named [] parts.hosts ≡ None

pub faultless : (parts : Parts) → fault_of parts ≡ None → IsFaultless parts
faultless parts h = let e = no-reason parts h in record {
  valid = valid_from parts e.1.0 e.1.1.0 e.1.1.1.0 e.1.1.1.1.0;
  some_device = by_count (length parts.devices) e.0;
  cables_apart = none-under _ (first_clash reuses_port [] parts.cables) e.1.1.1.1.1.0;
  few_hosts = few_hosts parts e.1.1.1.1.1.1.0;
  hosts_apart = none-under _ (first_clash (takes_used_port parts) [] parts.hosts) e.1.1.1.1.1.1.1.0;
  devices_named_apart = none-under _ (first_clash device_named [] parts.devices) e.1.1.1.1.1.1.1.1.0;
  hosts_named_apart = none-under _ (first_clash host_named [] parts.hosts) e.1.1.1.1.1.1.1.1.1.0;
}
  where
    by_count : (n : ℕ) → (if n == 0 then Some N1 else None) ≡ None → 0 < n
    by_count zero q = absurd cc
    by_count (suc n) q = omega arith
