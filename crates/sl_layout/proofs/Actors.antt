-- The actors of a net: each is one of the parts, and no two are one; and the senders of what comes to each.
use Rattle.std.proofs.Common.{◌≡◌, ℕ, zero, suc, ◌<◌, List, [], ◌∷◌, length, refl, sym, ap, subst, ◌∙◌, arith, inl, inr, eq-eqb, get_or, map, ◌+◌, ◌≤◌, Option, Some, None}
use Rattle.std.specs.Prelude.{◌⊎◌, true, false, Bool, if◌then◌else◌, flat_map, ◌||◌, ◌==◌, slice_get, IfSome}
use Rattle.sl_layout.specs.declared.actor.ActorId.{ActorId}
use Rattle.sl_layout.specs.declared.actor.ActorId.TheVariants.{Observer, Control, Unit as OfUnit, Host as OfHost}
use Rattle.sl_layout.specs.declared.actor.Side.{Side}
use Rattle.sl_layout.specs.declared.actor.Side.TheVariants.{Ingress, Egress}
use Rattle.sl_parts.specs.Parts.{Parts, below, is_used, used_ports, ports_of, same_port, other_end, host_from, host_at}
use Rattle.sl_layout.specs.Net.{net_of, actor_of, nobody, same_actor, ingress, egress, units_of, actors_of, place_of, sort_number, Incoming, incoming, unit_incoming, from_outside, from_host_or_cable, to_host, links_to}
use Rattle.sl_layout.specs.Roster.{IsActor}
use Rattle.sl_parts.specs.Lists.{Each, Member}
use Rattle.sl_parts.proofs.Lists.{each-append, each-map, each-imp, each-flat, each-below, each-both, each-of, each-at, member-left, member-right, member-flat, member-map, member-filter, member-from, member-parts, distinct-append, distinct-filter, distinct-flat, distinct-from, inside, all-from_each, Distinct, each-from_all}
use Rattle.std.specs.List.{All, list_any}
use Rattle.sl_layout.proofs.Numbering.{actor_tells, AreOneActor, AreTwoActors}
use Rattle.std.proofs.lemmas.Bool.{or_left, or_right, and_from}
use Rattle.sl_layout.specs.declared.actor.Sort.TheVariants.{Crossbar, Init, Poll, Notice, Dump, Done}
use Rattle.sl_layout.specs.declared.actor.LinkPart.{LinkPart}
use Rattle.sl_parts.specs.declared.parts.PortRef.{PortRef}
use Rattle.sl_parts.specs.declared.parts.CablePart.{CablePart}
use Rattle.sl_parts.specs.declared.parts.HostPart.{HostPart}
use Rattle.sl_parts.specs.Valid.{IsPort, IsValid}
use Rattle.sl_parts.specs.Ports.{IsNear}
use Rattle.sl_parts.proofs.Tables.{near}

member-unit : (parts : Parts) (d p : ℕ) (u : ActorId) → d < length parts.devices → p < ports_of parts d → is_used parts (record { device = d; port = p }) ≡ true → Member u (ingress d p ∷ egress d p ∷ []) → Member u (actors_of parts)
member-unit parts d p u k j i m = inr (member-left u (flat_map (λ d. Control d ∷ units_of parts d) (below (length parts.devices))) (map OfHost (below (length parts.hosts)))
    (member-flat (λ d. Control d ∷ units_of parts d) d u (below (length parts.devices)) (member-from d 0 (length parts.devices) (omega arith) (omega arith))
    (inr (member-flat (λ p. ingress d p ∷ egress d p ∷ []) p u (used_ports parts d)
    (member-filter (λ p. is_used parts (record { device = d; port = p })) p (below (ports_of parts d)) (member-from p 0 (ports_of parts d) (omega arith) (omega arith)) i) m))))

pub actor-member : (parts : Parts) (a : ActorId) → IsActor parts a → Member a (actors_of parts)
actor-member parts Observer h = inl refl
actor-member parts (Control d) h = inr (member-left (Control d) (flat_map (λ d. Control d ∷ units_of parts d) (below (length parts.devices))) (map OfHost (below (length parts.hosts)))
    (member-flat (λ d. Control d ∷ units_of parts d) d (Control d) (below (length parts.devices)) (member-from d 0 (length parts.devices) (omega arith) (omega arith)) (inl refl)))
actor-member parts (OfUnit u) h = of_side u.side refl
  where
    of_side : (x : Side) → u.side ≡ x → Member (OfUnit u) (actors_of parts)
    of_side Ingress q = member-unit parts u.device u.port (OfUnit u) h.0 h.1 h.2 (inl (ap (λ x. OfUnit (record { device = u.device; port = u.port; side = x })) q))
    of_side Egress q = member-unit parts u.device u.port (OfUnit u) h.0 h.1 h.2 (inr (inl (ap (λ x. OfUnit (record { device = u.device; port = u.port; side = x })) q)))
actor-member parts (OfHost i) h = inr (member-right (OfHost i) (flat_map (λ d. Control d ∷ units_of parts d) (below (length parts.devices))) (map OfHost (below (length parts.hosts)))
    (member-map OfHost i (below (length parts.hosts)) (member-from i 0 (length parts.hosts) (omega arith) (omega arith))))

pub each-used : (parts : Parts) (d : ℕ) → Each (λ p. (p < ports_of parts d) × (is_used parts (record { device = d; port = p }) ≡ true)) (used_ports parts d)
each-used parts d = each-both (λ p. p < ports_of parts d) (λ p. is_used parts (record { device = d; port = p })) (below (ports_of parts d))
    (each-below (λ p. p < ports_of parts d) (ports_of parts d) (λ i p. p))

pub units-actors : (parts : Parts) (d : ℕ) → d < length parts.devices → Each (IsActor parts) (units_of parts d)
units-actors parts d k = each-flat (IsActor parts) (λ p. ingress d p ∷ egress d p ∷ []) (used_ports parts d)
    (each-imp (λ p. (p < ports_of parts d) × (is_used parts (record { device = d; port = p }) ≡ true)) (λ p. Each (IsActor parts) (ingress d p ∷ egress d p ∷ [])) (used_ports parts d)
    (λ p h. ((k, h.0, h.1), ((k, h.0, h.1), tt))) (each-used parts d))

pub each-actor : (parts : Parts) → Each (IsActor parts) (actors_of parts)
each-actor parts = (
  tt,
  each-append (IsActor parts) (flat_map (λ d. Control d ∷ units_of parts d) (below (length parts.devices))) (map OfHost (below (length parts.hosts)))
      (each-flat (IsActor parts) (λ d. Control d ∷ units_of parts d) (below (length parts.devices)) (each-below (λ d. Each (IsActor parts) (Control d ∷ units_of parts d)) (length parts.devices) (λ d k. (k, units-actors parts d k))))
      (each-map (IsActor parts) OfHost (below (length parts.hosts)) (each-below (λ h. h < length parts.hosts) (length parts.hosts) (λ h k. k))),
)

-- Places.

pub same_actor_true : (a b : ActorId) → same_actor a b ≡ true → a ≡ b
same_actor_true a b h = by_tells (actor_tells a b)
  where
    by_tells : AreOneActor a b ⊎ AreTwoActors a b → a ≡ b
    by_tells (inl e) = e.1
    by_tells (inr e) = absurd (let z : true ≡ false = sym h ∙ e.0 in cc)

pub same_actor_refl : (a : ActorId) → same_actor a a ≡ true
same_actor_refl Observer = refl
same_actor_refl (Control d) = eq-eqb d d refl
same_actor_refl (OfUnit u) = of_side u.side
  where
    of_side : (s : Side) → same_actor (OfUnit (record { device = u.device; port = u.port; side = s })) (OfUnit (record { device = u.device; port = u.port; side = s })) ≡ true
    of_side Ingress = rw (eq-eqb u.device u.device refl, eq-eqb u.port u.port refl) refl
    of_side Egress = rw (eq-eqb u.device u.device refl, eq-eqb u.port u.port refl) refl
same_actor_refl (OfHost h) = eq-eqb h h refl

pub place-found : (a : ActorId) (bs : List ActorId) (d : ActorId) → Member a bs → get_or bs (place_of a bs) d ≡ a
place-found a [] d m = absurd m
place-found a (b ∷ bs) d m = by_bool (λ n. place-found a bs d n) (same_actor a b) refl m
  where
    by_bool : (Member a bs → get_or bs (place_of a bs) d ≡ a) → (x : Bool) → same_actor a b ≡ x → (a ≡ b) ⊎ Member a bs → get_or (b ∷ bs) (if x then 0 else suc (place_of a bs)) d ≡ a
    by_bool ih true q n = sym (same_actor_true a b q)
    by_bool ih false q (inl e) = absurd (let z : true ≡ false = sym (same_actor_refl a) ∙ ap (same_actor a) e ∙ q in cc)
    by_bool ih false q (inr n) = ih n

pub actor-at : (parts : Parts) (a : ActorId) → IsActor parts a → actor_of (net_of parts) (place_of a (actors_of parts)) ≡ a
actor-at parts a h = place-found a (actors_of parts) nobody (actor-member parts a h)

-- The actors.

-- the kind of an actor, and its number
abbrev kind : ActorId → ℕ
kind Observer = 0
kind (Control d) = 1
kind (OfUnit u) = 2
kind (OfHost h) = 3

abbrev device_key : ActorId → ℕ
device_key Observer = 0
device_key (Control d) = d
device_key (OfUnit u) = u.device
device_key (OfHost h) = h

abbrev port_key : ActorId → ℕ
port_key (OfUnit u) = u.port
port_key _ = 0

abbrev side_key : ActorId → Side
side_key (OfUnit u) = u.side
side_key _ = Ingress

-- what holds of both units of each port
pub each-unit-of : (parts : Parts) (d : ℕ) (P : ActorId → Type 0) → ((p : ℕ) → P (ingress d p) × P (egress d p)) → Each P (units_of parts d)
each-unit-of parts d P f = each-flat P (λ p. ingress d p ∷ egress d p ∷ []) (used_ports parts d) (each-of (λ p. Each P (ingress d p ∷ egress d p ∷ [])) (used_ports parts d) (λ p m. let k = f p in (k.0, (k.1, tt))))

pub units-distinct : (parts : Parts) (d : ℕ) → Distinct (units_of parts d)
units-distinct parts d = distinct-flat (λ p. ingress d p ∷ egress d p ∷ []) port_key (used_ports parts d)
    (distinct-filter (λ p. is_used parts (record { device = d; port = p })) (below (ports_of parts d)) (distinct-from 0 (ports_of parts d)))
    (each-of (λ p. Distinct (ingress d p ∷ egress d p ∷ [])) (used_ports parts d) (λ p m. (two p, ((λ n. n), tt))))
    (λ p. (refl, (refl, tt)))
  where
    two : (p : ℕ) → Member (ingress d p) (egress d p ∷ []) → ⊥
    two p (inl q) = let z : Ingress ≡ Egress = ap side_key q in absurd cc
    two p (inr m) = m

abbrev devices_list : Parts → List ActorId
devices_list parts = flat_map (λ d. Control d ∷ units_of parts d) (below (length parts.devices))

abbrev hosts_list : Parts → List ActorId
hosts_list parts = map OfHost (below (length parts.hosts))

-- controls and units are of the kinds 1 and 2, hosts of the kind 3
devices-kind : (parts : Parts) → Each (λ a. (kind a ≡ 1) ⊎ (kind a ≡ 2)) (devices_list parts)
devices-kind parts = each-flat (λ a. (kind a ≡ 1) ⊎ (kind a ≡ 2)) (λ d. Control d ∷ units_of parts d) (below (length parts.devices))
    (each-of (λ d. Each (λ a. (kind a ≡ 1) ⊎ (kind a ≡ 2)) (Control d ∷ units_of parts d)) (below (length parts.devices))
    (λ d m. (inl refl, each-unit-of parts d (λ a. (kind a ≡ 1) ⊎ (kind a ≡ 2)) (λ p. (inr refl, inr refl)))))

hosts-kind : (parts : Parts) → Each (λ a. kind a ≡ 3) (hosts_list parts)
hosts-kind parts = each-map (λ a. kind a ≡ 3) OfHost (below (length parts.hosts)) (each-of (λ h. kind (OfHost h) ≡ 3) (below (length parts.hosts)) (λ h m. refl))

distinct-map : (f : ℕ → ActorId) (key : ActorId → ℕ) (xs : List ℕ) → ((x : ℕ) → key (f x) ≡ x) → Distinct xs → Distinct (map f xs)
distinct-map f key [] k d = tt
distinct-map f key (x ∷ xs) k d = ((λ m. d.0 (found xs m)), distinct-map f key xs k d.1)
  where
    found : (ys : List ℕ) → Member (f x) (map f ys) → Member x ys
    found [] m = m
    found (y ∷ ys) (inl q) = inl (sym (k x) ∙ ap key q ∙ k y)
    found (y ∷ ys) (inr m) = inr (found ys m)

pub actors-distinct : (parts : Parts) → Distinct (actors_of parts)
actors-distinct parts = (
  (λ m. by_parts (member-parts Observer (devices_list parts) (hosts_list parts) m)),
  distinct-append (devices_list parts) (hosts_list parts)
      (distinct-flat (λ d. Control d ∷ units_of parts d) device_key (below (length parts.devices)) (distinct-from 0 (length parts.devices))
      (each-of (λ d. Distinct (Control d ∷ units_of parts d)) (below (length parts.devices))
      (λ d m. ((λ n. let z : 1 ≡ 2 = each-at (λ a. kind a ≡ 2) (Control d) (units_of parts d) (each-unit-of parts d (λ a. kind a ≡ 2) (λ p. (refl, refl))) n in omega arith), units-distinct parts d)))
      (λ d. (refl, each-unit-of parts d (λ a. device_key a ≡ d) (λ p. (refl, refl)))))
      (distinct-map OfHost device_key (below (length parts.hosts)) (λ x. refl) (distinct-from 0 (length parts.hosts)))
      (λ x p q. apart x (each-at (λ a. (kind a ≡ 1) ⊎ (kind a ≡ 2)) x (devices_list parts) (devices-kind parts) p) (each-at (λ a. kind a ≡ 3) x (hosts_list parts) (hosts-kind parts) q)),
)
  where
    apart : (x : ActorId) → (kind x ≡ 1) ⊎ (kind x ≡ 2) → kind x ≡ 3 → ⊥
    apart x (inl p) q = omega (arith, p, q)
    apart x (inr p) q = omega (arith, p, q)

    first : (n : ℕ) → n ≡ 0 → (n ≡ 1) ⊎ (n ≡ 2) → ⊥
    first n z (inl p) = omega (arith, z, p)
    first n z (inr p) = omega (arith, z, p)

    last : (n : ℕ) → n ≡ 0 → n ≡ 3 → ⊥
    last n z p = omega (arith, z, p)

    by_parts : Member Observer (devices_list parts) ⊎ Member Observer (hosts_list parts) → ⊥
    by_parts (inl n) = first 0 refl (each-at (λ a. (kind a ≡ 1) ⊎ (kind a ≡ 2)) Observer (devices_list parts) (devices-kind parts) n)
    by_parts (inr n) = last 0 refl (each-at (λ a. kind a ≡ 3) Observer (hosts_list parts) (hosts-kind parts) n)

-- the actor at a place has that place
place-of-at : (xs : List ActorId) (i : ℕ) (d : ActorId) → Distinct xs → i < length xs → place_of (get_or xs i d) xs ≡ i
place-of-at [] i d e p = absurd (omega arith)
place-of-at (x ∷ xs) zero d e p = ap (λ b. if b then 0 else suc (place_of x xs)) (same_actor_refl x)
place-of-at (x ∷ xs) (suc i) d e p = by_bool (place-of-at xs i d e.1 (omega arith)) (same_actor (get_or xs i d) x) refl
  where
    by_bool : place_of (get_or xs i d) xs ≡ i → (b : Bool) → same_actor (get_or xs i d) x ≡ b → (if b then 0 else suc (place_of (get_or xs i d) xs)) ≡ suc i
    by_bool ih true q = absurd (e.0 (subst (λ y. Member y xs) (same_actor_true (get_or xs i d) x q) (inside xs i d (omega arith))))
    by_bool ih false q = ap suc ih

pub place-at : (parts : Parts) (i : ℕ) → i < length (actors_of parts) → place_of (actor_of (net_of parts) i) (actors_of parts) ≡ i
place-at parts i p = place-of-at (actors_of parts) i nobody (actors-distinct parts) p

pub all-actors : (parts : Parts) → All (IsActor parts) (actors_of parts)
all-actors parts = all-from_each (IsActor parts) (actors_of parts) (each-actor parts)

pub each-place : (parts : Parts) (i : ℕ) (d : ActorId) → i < length (actors_of parts) → place_of (get_or (actors_of parts) i d) (actors_of parts) ≡ i
each-place parts i d h = place-of-at (actors_of parts) i d (actors-distinct parts) h

-- The links of a net: where they come from.

abbrev pub sends : ActorId → ℕ → Bool
sends Observer n = n == 8
sends (Control d) n = (n == 4) || ((n == 5) || (n == 9))
sends (OfUnit u) n = (n == 1) || ((n == 2) || ((n == 3) || ((n == 6) || (n == 7))))
sends (OfHost h) n = n == 0

abbrev pub IsSender : Parts → Incoming → Type 0
IsSender parts i = IsActor parts i.0 × (sends i.0 (sort_number i.1) ≡ true)

same-port-refl : (p : PortRef) → same_port p p ≡ true
same-port-refl p = and_from (p.device == p.device) (p.port == p.port) (eq-eqb p.device p.device refl) (eq-eqb p.port p.port refl)

-- the port of a host is used
member-any : (h : HostPart) (hs : List HostPart) → Member h hs → list_any (λ g. same_port g.at h.at) hs ≡ true
member-any h [] m = absurd m
member-any h (x ∷ hs) (inl q) = or_left (same_port x.at h.at) (list_any (λ g. same_port g.at h.at) hs) (subst (λ x. same_port x.at h.at ≡ true) q (same-port-refl h.at))
member-any h (x ∷ hs) (inr m) = or_right (same_port x.at h.at) (list_any (λ g. same_port g.at h.at) hs) (member-any h hs m)

host-sender : (parts : Parts) (hs : List HostPart) (i : ℕ) → Each (λ h. IsPort parts h.at) hs → ((h : HostPart) → Member h hs → list_any (λ g. same_port g.at h.at) parts.hosts ≡ true)
    → Each (IsSender parts) (to_host (slice_get (map (λ (part : HostPart). part.at) hs) i))
host-sender parts [] i e m = tt
host-sender parts (h ∷ hs) zero e m = (((e.0.device, e.0.port, or_right (list_any (λ c. same_port c.a h.at || same_port c.b h.at) parts.cables) (list_any (λ g. same_port g.at h.at) parts.hosts) (m h (inl refl))), refl), tt)
host-sender parts (h ∷ hs) (suc i) e m = host-sender parts hs i e.1 (λ q k. m q (inr k))

-- the other end of a cable is a used port
other-used : (parts : Parts) (cs : List CablePart) (p q : PortRef) → Each (λ c. IsPort parts c.a × IsPort parts c.b) cs → other_end cs p ≡ Some q → IsPort parts q × (list_any (λ c. same_port c.a q || same_port c.b q) cs ≡ true)
other-used parts [] p q e h = absurd cc
other-used parts (c ∷ cs) p q e h = by_bool (λ k. other-used parts cs p q e.1 k) (same_port c.a p) (same_port c.b p) h
  where
    first : (r : PortRef) → r ≡ q → IsPort parts r → (same_port c.a r || same_port c.b r) ≡ true → IsPort parts q × (list_any (λ c. same_port c.a q || same_port c.b q) (c ∷ cs) ≡ true)
    first r z k t = (subst (IsPort parts) z k, or_left (same_port c.a q || same_port c.b q) (list_any (λ c. same_port c.a q || same_port c.b q) cs) (subst (λ r. (same_port c.a r || same_port c.b r) ≡ true) z t))

    by_bool : (other_end cs p ≡ Some q → IsPort parts q × (list_any (λ c. same_port c.a q || same_port c.b q) cs ≡ true)) → (x y : Bool)
        → (if x then Some c.b else if y then Some c.a else other_end cs p) ≡ Some q → IsPort parts q × (list_any (λ c. same_port c.a q || same_port c.b q) (c ∷ cs) ≡ true)
    by_bool ih true y h = first c.b (cc) e.0.1 (or_right (same_port c.a c.b) (same_port c.b c.b) (same-port-refl c.b))
    by_bool ih false true h = first c.a (cc) e.0.0 (or_left (same_port c.a c.a) (same_port c.b c.a) (same-port-refl c.a))
    by_bool ih false false h = let r = ih h in (r.0, or_right (same_port c.a q || same_port c.b q) (list_any (λ c. same_port c.a q || same_port c.b q) cs) r.1)

pub host_found : (n : ℕ) (hs : List HostPart) (p : PortRef) (h : ℕ) → host_from n hs p ≡ Some h → h < n + length hs
host_found n [] p h q = absurd cc
host_found n (x ∷ hs) p h q = by_bool (λ k. host_found (suc n) hs p h k) (same_port x.at p) q
  where
    by_bool : (host_from (suc n) hs p ≡ Some h → h < suc n + length hs) → (b : Bool) → (if b then Some n else host_from (suc n) hs p) ≡ Some h → h < n + suc (length hs)
    by_bool ih true q = let z : n ≡ h = cc in omega arith
    by_bool ih false q = let k : h < suc n + length hs = ih q in omega arith

outside-senders : (parts : Parts) (p : PortRef) → IsValid parts → Each (IsSender parts) (from_outside parts p)
outside-senders parts p v = by_ends (host_at parts p) (other_end parts.cables p) refl refl
  where
    by_ends : (x : Option ℕ) (y : Option PortRef) → host_at parts p ≡ x → other_end parts.cables p ≡ y → Each (IsSender parts) (from_host_or_cable x y)
    by_ends (Some h) y q r = ((let k : h < 0 + length parts.hosts = host_found 0 parts.hosts p h q in omega arith, refl), tt)
    by_ends None (Some e) q r = let o = other-used parts parts.cables p e (each-from_all (λ c. IsPort parts c.a × IsPort parts c.b) parts.cables v.cables) r in
        (((o.0.device, o.0.port, or_left (list_any (λ c. same_port c.a e || same_port c.b e) parts.cables) (list_any (λ g. same_port g.at e) parts.hosts) o.1), refl), tt)
    by_ends None None q r = tt

-- the other end of a cable is a port
pub end_is_port : (parts : Parts) (p q : PortRef) → IsValid parts → other_end parts.cables p ≡ Some q → IsPort parts q
end_is_port parts p q v h = (other-used parts parts.cables p q (each-from_all (λ c. IsPort parts c.a × IsPort parts c.b) parts.cables v.cables) h).0

pub end_near : (parts : Parts) (p : PortRef) → IsValid parts → IfSome (other_end parts.cables p) (IsNear (length parts.devices))
end_near parts p v = by_option (other_end parts.cables p) refl
  where
    by_option : (o : Option PortRef) → other_end parts.cables p ≡ o → IfSome o (IsNear (length parts.devices))
    by_option None q = tt
    by_option (Some e) q = near parts e v (end_is_port parts p e v q)

pub guest_few : (parts : Parts) (p : PortRef) → length parts.hosts ≤ 128 → IfSome (host_at parts p) (λ h. h < 128)
guest_few parts p few = by_option (host_at parts p) refl
  where
    by_option : (o : Option ℕ) → host_at parts p ≡ o → IfSome o (λ h. h < 128)
    by_option None q = tt
    by_option (Some h) q = omega (arith, host_found 0 parts.hosts p h q, few)

pub each-sender : (parts : Parts) (a : ActorId) → IsValid parts → IsActor parts a → Each (IsSender parts) (incoming parts a)
each-sender parts Observer v h = each-map (IsSender parts) (λ d. (Control d, Done)) (below (length parts.devices)) (each-below (λ d. IsSender parts (Control d, Done)) (length parts.devices) (λ d k. (k, refl)))
each-sender parts (Control d) v h = ((tt, refl), each-flat (IsSender parts) (λ u. (u, Notice) ∷ (u, Dump) ∷ []) (units_of parts d) (each-units (used_ports parts d) (each-used parts d)))
  where
    each-units : (ps : List ℕ) → Each (λ p. (p < ports_of parts d) × (is_used parts (record { device = d; port = p }) ≡ true)) ps
        → Each (λ u. Each (IsSender parts) ((u, Notice) ∷ (u, Dump) ∷ [])) (flat_map (λ p. ingress d p ∷ egress d p ∷ []) ps)
    each-units [] e = tt
    each-units (p ∷ ps) e = let k : IsActor parts (ingress d p) = (h, e.0.0, e.0.1) in let j : IsActor parts (egress d p) = (h, e.0.0, e.0.1) in
        (((k, refl), ((k, refl), tt)), (((j, refl), ((j, refl), tt)), each-units ps e.1))
each-sender parts (OfUnit u) v h = of_side u.side
  where
    of_side : (s : Side) → Each (IsSender parts) (unit_incoming parts u.device u.port s)
    of_side Ingress = each-append (IsSender parts) (from_outside parts (record { device = u.device; port = u.port })) ((Control u.device, Init) ∷ (Control u.device, Poll) ∷ [])
        (outside-senders parts (record { device = u.device; port = u.port }) v) ((h.0, refl), ((h.0, refl), tt))
    of_side Egress = each-append (IsSender parts) (map (λ q. (ingress u.device q, Crossbar)) (used_ports parts u.device)) ((Control u.device, Poll) ∷ [])
        (each-map (IsSender parts) (λ q. (ingress u.device q, Crossbar)) (used_ports parts u.device)
        (each-imp (λ p. (p < ports_of parts u.device) × (is_used parts (record { device = u.device; port = p }) ≡ true)) (λ q. IsSender parts (ingress u.device q, Crossbar)) (used_ports parts u.device)
        (λ q k. ((h.0, k.0, k.1), refl)) (each-used parts u.device)))
        ((h.0, refl), tt)
each-sender parts (OfHost i) v h = host-sender parts parts.hosts i (each-from_all (λ h. IsPort parts h.at) parts.hosts v.hosts) (λ h m. member-any h parts.hosts m)

-- Links.

-- what a link of the net is: it leads from an actor of the parts to one, and this actor sends its sort
pub record IsLink (parts : Parts) (k : LinkPart) : Type 0 where
  pub sender : ActorId
  pub receiver : ActorId
  pub sends : sends sender (sort_number k.sort) ≡ true
  pub is_sender : IsActor parts sender
  pub is_receiver : IsActor parts receiver
  pub listed : Member (sender, k.sort) (incoming parts receiver)
  pub from : k.from ≡ place_of sender (actors_of parts)
  pub to : k.to ≡ place_of receiver (actors_of parts)

pub each-link : (parts : Parts) → IsValid parts → Each (IsLink parts) (net_of parts).links
each-link parts v = each-flat (IsLink parts) (λ a. links_to parts (actors_of parts) a) (actors_of parts)
    (each-imp (IsActor parts) (λ a. Each (IsLink parts) (links_to parts (actors_of parts) a)) (actors_of parts) of_actor (each-actor parts))
  where
    of_actor : (a : ActorId) → IsActor parts a → Each (IsLink parts) (links_to parts (actors_of parts) a)
    of_actor a h = each-map (IsLink parts) (λ i. record { from = place_of i.0 (actors_of parts); to = place_of a (actors_of parts); sort = i.1 }) (incoming parts a)
        (each-of (λ i. IsLink parts (record { from = place_of i.0 (actors_of parts); to = place_of a (actors_of parts); sort = i.1 })) (incoming parts a)
        (λ i m. let s : IsSender parts i = each-at (IsSender parts) i (incoming parts a) (each-sender parts a v h) m in
        record { sender = i.0; receiver = a; sends = s.1; is_sender = s.0; is_receiver = h; listed = m; from = refl; to = refl }))
