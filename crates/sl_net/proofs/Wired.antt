-- A net of parts without a fault is wired as the laws of histories ask.
use Rattle.std.proofs.Common.{◌≡◌, ℕ, zero, suc, ◌+◌, ◌<◌, ◌≤◌, List, [], ◌∷◌, length, refl, sym, ap, subst, ◌∙◌, Option, Some, None, arith, inl, inr, eq-eqb, get_or, take, ◌++◌, length-append, zero-add}
use Rattle.std.specs.Prelude.{◌⊎◌, ◌==◌, ◌||◌, true, false, Bool, cond, if◌then◌else◌, filter, slice_get, option_map, is_some, map}
use Rattle.std.proofs.lemmas.Bool.{eqb-true, and_parts, or_parts, and_from}
use Rattle.std.proofs.lemmas.Option.{slice_get-map, slice_get_within, get_or_from_slice_get}
use Rattle.sl_layout.specs.declared.actor.ActorId.{ActorId}
use Rattle.sl_layout.specs.declared.actor.ActorId.TheVariants.{Observer, Control, Unit as OfUnit, Host as OfHost}
use Rattle.sl_layout.specs.declared.actor.Side.{Side}
use Rattle.sl_layout.specs.declared.actor.Side.TheVariants.{Ingress, Egress}
use Rattle.sl_layout.specs.declared.actor.Sort.{Sort}
use Rattle.sl_layout.specs.declared.actor.Sort.TheVariants.{FromHost, Cable, Crossbar, Init, Poll, Done}
use Rattle.sl_layout.specs.declared.actor.LinkPart.{LinkPart}
use Rattle.sl_parts.specs.declared.parts.PortRef.{PortRef}
use Rattle.sl_parts.specs.declared.parts.HostPart.{HostPart}
use Rattle.sl_parts.specs.Fault.{first_clash, takes_used_port, has_guest, fault_of}
use Rattle.sl_parts.specs.Parts.{Parts, same_port, other_end, host_from, host_at, has_cable, is_used, used_ports, below}
use Rattle.sl_layout.specs.Net.{Incoming, net_of, actors_of, actor_of, link_of, link_numbers, no_link, same_sort, ingress, incoming, from_host_or_cable, from_outside, to_host, place_of, links_into, links_from, place_in, nobody, Net, link_at, choices_of, data_channels, unit_incoming, links_to, choice_of}
use Rattle.sl_layout.specs.Roster.{IsActor}
use Rattle.sl_parts.specs.Valid.{IsPort, IsValid}
use Rattle.sl_net.specs.Wired.{HostLinks, sends, receives, home, Reports, HasEnds, IsWired, IsNet}
use Rattle.sl_layout.proofs.Actors.{place-at, each-actor, IsLink, each-link, actor-at, actor-member, each-place}
use Rattle.sl_parts.specs.Lists.{Member}
use Rattle.sl_parts.proofs.Lists.{only-one, distinct-filter, distinct-from, each-at, each-imp, each-both, each-below, each-index, member-left, member-parts, member-filter, member-from, place-of-member}
use Rattle.sl_net.proofs.NetWired.{same-place, Joined, each-joined, Linked, linked, link_from, one-link, into-links, IsAt, is-at, ends, begins, begin-first, reports, faultless}
use Rattle.std.proofs.lemmas.List.{length-map, get_or-map}
use Rattle.sl_parts.proofs.Tables.{has_guest-is}
use Rattle.std.specs.List.{range_with_len}
use Rattle.sl_layout.specs.declared.actor.UnitId.{UnitId}
use Rattle.sl_layout.proofs.Ends.{few_used, few_actors}
use Rattle.std.proofs.lemmas.Simd.{map-map}
use Rattle.std.proofs.lemmas.List.FromFn.{get_or-map-range_with_len, length-map-range_with_len}
use Rattle.sl_net.proofs.EndKinds.{begin-receiver, poll-sender, data-sender, init-sender, done-sender, begin-sender, poll-receiver}
use Rattle.sl_net.proofs.Sorts.{has-ways}
use Rattle.sl_net.proofs.Namesakes.{no_clash}
use Rattle.sl_layout.proofs.Sorts.{by_sort}

-- Hosts by their ports.

no_host : HostPart
no_host = record { name = []; at = record { device = 0; port = 0 } }

found-after : (n : ℕ) (hs : List HostPart) (i : ℕ) (p : PortRef) → i < length hs → host_from n (take i hs) p ≡ None → same_port (get_or hs i no_host).at p ≡ true → host_from n hs p ≡ Some (n + i)
found-after n [] i p l e q = absurd (omega (arith, l))
found-after n (h ∷ hs) zero p l e q = ap (λ b. if b then Some n else host_from (suc n) hs p) q ∙ (let z : n ≡ n + 0 = omega arith in ap Some z)
found-after n (h ∷ hs) (suc i) p l e q = by_bool (same_port h.at p) e (λ e. found-after (suc n) hs i p (omega (arith, l)) e q)
  where
    by_bool : (b : Bool) → (if b then Some n else host_from (suc n) (take i hs) p) ≡ None → (host_from (suc n) (take i hs) p ≡ None → host_from (suc n) hs p ≡ Some (suc n + i)) → (if b then Some n else host_from (suc n) hs p) ≡ Some (n + suc i)
    by_bool true e ih = absurd cc
    by_bool false e ih = ih e ∙ (let z : suc n + i ≡ n + suc i = omega arith in ap Some z)

same-self : (p : PortRef) → same_port p p ≡ true
same-self p = and_from (p.device == p.device) (p.port == p.port) (eq-eqb p.device p.device refl) (eq-eqb p.port p.port refl)

not-some : {A : Type 0} (o : Option A) → is_some o ≡ false → o ≡ None
not-some None q = refl
not-some (Some x) q = absurd cc

-- where no two hosts stand at one port, a host is found at its own
host-found : (parts : Parts) (h : ℕ) → first_clash (takes_used_port parts) [] parts.hosts ≡ None → h < length parts.hosts → host_at parts (get_or parts.hosts h no_host).at ≡ Some h
host-found parts h u l = found-after 0 parts.hosts h p l (not-some (host_from 0 (take h parts.hosts) p) (sym (has_guest-is 0 (take h parts.hosts) p) ∙ free)) (same-self p) ∙ (let z : 0 + h ≡ h = omega arith in ap Some z)
  where
    p : PortRef
    p = (get_or parts.hosts h no_host).at

    free : has_guest (take h parts.hosts) (get_or parts.hosts h no_host).at ≡ false
    free = (or_parts (has_cable parts (get_or parts.hosts h no_host).at) (has_guest (take h parts.hosts) (get_or parts.hosts h no_host).at)
        (no_clash (takes_used_port parts) [] parts.hosts h no_host u l)).1

-- and a port at which it is found is its own
port-of : (n : ℕ) (hs : List HostPart) (p : PortRef) (h : ℕ) → host_from n hs p ≡ Some h → (i : ℕ) × (h ≡ n + i) × (same_port (get_or hs i no_host).at p ≡ true)
port-of n [] p h e = absurd cc
port-of n (x ∷ hs) p h e = by_bool (same_port x.at p) refl e (λ e. port-of (suc n) hs p h e)
  where
    by_bool : (b : Bool) → same_port x.at p ≡ b → (if b then Some n else host_from (suc n) hs p) ≡ Some h → (host_from (suc n) hs p ≡ Some h → (i : ℕ) × (h ≡ suc n + i) × (same_port (get_or hs i no_host).at p ≡ true))
        → (i : ℕ) × (h ≡ n + i) × (same_port (get_or (x ∷ hs) i no_host).at p ≡ true)
    by_bool true q e ih = (0, (let z : n ≡ h = cc in omega (arith, z)), q)
    by_bool false q e ih = let r = ih e in let k = r.1 in (suc r.0, omega (arith, k), r.2)

same-is : (p q : PortRef) → same_port p q ≡ true → p ≡ q
same-is p q e = let b = and_parts (p.device == q.device) (p.port == q.port) e in let d = eqb-true p.device q.device b.0 in let t = eqb-true p.port q.port b.1 in λ i. record { device = d i; port = t i }

port-is : (parts : Parts) (p : PortRef) (h : ℕ) → host_at parts p ≡ Some h → (get_or parts.hosts h no_host).at ≡ p
port-is parts p h e = let r = port-of 0 parts.hosts p h e in let k : h ≡ r.0 = (let z = r.1 in omega (arith, z)) in
    ap (λ i. (get_or parts.hosts i no_host).at) k ∙ same-is (get_or parts.hosts r.0 no_host).at p r.2

-- The link to a host.

get-in : {A : Type 0} (xs : List A) (k : ℕ) (d : A) → k < length xs → slice_get xs k ≡ Some (get_or xs k d)
get-in [] k d p = absurd (omega (arith, p))
get-in (x ∷ xs) zero d p = refl
get-in (x ∷ xs) (suc k) d p = get-in xs k d (omega (arith, p))

one-into : (parts : Parts) (h : ℕ) → h < length parts.hosts → length (links_into (net_of parts) (place_of (OfHost h) (actors_of parts))) ≡ 1
one-into parts h l = sym (length-map (links_into (net_of parts) (place_of (OfHost h) (actors_of parts))) (link_of (net_of parts))) ∙ ap length (into-links parts (OfHost h) l)
    ∙ length-map (incoming parts (OfHost h)) (link_from parts (OfHost h))
    ∙ ap (λ o. length (to_host o)) (slice_get-map (λ part. part.at) parts.hosts h ∙ ap (option_map (λ part. part.at)) (get-in parts.hosts h no_host l))

-- The link from a host.

from-host : (h : ℕ) (t : Sort) → sends (OfHost h) t ≡ true → t ≡ FromHost
from-host h = by_sort (λ t. sends (OfHost h) t ≡ true → t ≡ FromHost) (λ q. refl) (λ q. absurd (cc)) (λ q. absurd (cc)) (λ q. absurd (cc)) (λ q. absurd (cc)) (λ q. absurd (cc)) (λ q. absurd (cc)) (λ q. absurd (cc)) (λ q. absurd (cc)) (λ q. absurd (cc))

to-ingress : (r : ActorId) → receives r FromHost ≡ true → (p : PortRef) × (r ≡ ingress p.device p.port)
to-ingress (OfUnit u) q = of_side u.side refl
  where
    of_side : (s : Side) → u.side ≡ s → (p : PortRef) × (OfUnit u ≡ ingress p.device p.port)
    of_side Ingress e = (record { device = u.device; port = u.port }, ap (λ s. OfUnit (record { device = u.device; port = u.port; side = s })) e)
    of_side Egress e = absurd (let y : receives (OfUnit (record { device = u.device; port = u.port; side = Egress })) FromHost ≡ true = ap (λ s. receives (OfUnit (record { device = u.device; port = u.port; side = s })) FromHost) (sym e) ∙ q in cc)
to-ingress Observer q = absurd cc
to-ingress (Control d) q = absurd cc
to-ingress (OfHost i) q = absurd cc

host-there : (parts : Parts) (h : ℕ) (p : PortRef) → Member {A = Incoming} (OfHost h, FromHost) (incoming parts (ingress p.device p.port)) → host_at parts p ≡ Some h
host-there parts h p m = by_part (member-parts (OfHost h, FromHost) (from_outside parts p) ((Control p.device, Init) ∷ (Control p.device, Poll) ∷ []) m)
  where
    by_ends : (x : Option ℕ) (y : Option PortRef) → Member {A = Incoming} (OfHost h, FromHost) (from_host_or_cable x y) → x ≡ Some h
    by_ends (Some k) y (inl e) = let z : OfHost h ≡ OfHost k = ap (λ i. i.0) e in let w : h ≡ k = cc in ap Some (sym w)
    by_ends (Some k) y (inr e) = absurd e
    by_ends None (Some q) (inl e) = absurd (let z : FromHost ≡ Cable = ap (λ i. i.1) e in cc)
    by_ends None (Some q) (inr e) = absurd e
    by_ends None None e = absurd e

    by_part : Member {A = Incoming} (OfHost h, FromHost) (from_outside parts p) ⊎ Member {A = Incoming} (OfHost h, FromHost) ((Control p.device, Init) ∷ (Control p.device, Poll) ∷ []) → host_at parts p ≡ Some h
    by_part (inl e) = by_ends (host_at parts p) (other_end parts.cables p) e
    by_part (inr (inl e)) = absurd (let z : FromHost ≡ Init = ap (λ i. i.1) e in cc)
    by_part (inr (inr (inl e))) = absurd (let z : FromHost ≡ Poll = ap (λ i. i.1) e in cc)
    by_part (inr (inr (inr e))) = absurd e

module _ (parts : Parts) (h : ℕ) (v : IsValid parts) (u : first_clash (takes_used_port parts) [] parts.hosts ≡ None) (l : h < length parts.hosts) where
  abbrev at : PortRef
  at = (get_or parts.hosts h no_host).at

  abbrev place : ℕ
  place = place_of (OfHost h) (actors_of parts)

  ingress-is : IsActor parts (ingress at.device at.port)
  ingress-is = let p : IsPort parts at = v.hosts h no_host l in (p.device, p.port, used)
    where
      or-true : (b : Bool) → (b || true) ≡ true
      or-true true = refl
      or-true false = refl

      used : is_used parts at ≡ true
      used = ap (λ b. has_cable parts at || b) (has_guest-is 0 parts.hosts at ∙ ap is_some (host-found parts h u l)) ∙ or-true (has_cable parts at)

  the-link : Linked parts (OfHost h) (ingress at.device at.port) FromHost
  the-link = linked parts (OfHost h) (ingress at.device at.port) FromHost ingress-is
      (member-left (OfHost h, FromHost) (from_outside parts at) ((Control at.device, Init) ∷ (Control at.device, Poll) ∷ [])
      (subst (λ o. Member (OfHost h, FromHost) (from_host_or_cable o (other_end parts.cables at))) (sym (host-found parts h u l)) (inl refl)))

  -- what a link from the host is
  link-is : (k : LinkPart) → IsLink parts k → k.from ≡ place → k ≡ link_from parts (ingress at.device at.port) (OfHost h, FromHost)
  link-is k i e =
      let s : i.sender ≡ OfHost h = same-place parts i.sender (OfHost h) i.is_sender l (sym i.from ∙ e) in
      let m : Member (OfHost h, k.sort) (incoming parts i.receiver) = subst (λ x. Member (x, k.sort) (incoming parts i.receiver)) s i.listed in
      let j : Joined i.receiver (OfHost h, k.sort) = each-at (Joined i.receiver) (OfHost h, k.sort) (incoming parts i.receiver) (each-joined parts i.receiver) m in
      let t : k.sort ≡ FromHost = from-host h k.sort j.sent in
      let r = to-ingress i.receiver (subst (λ t. receives i.receiver t ≡ true) t j.received) in
      let p : at ≡ r.0 = port-is parts r.0 h (host-there parts h r.0 (subst (λ x. Member (OfHost h, FromHost) (incoming parts x)) r.1 (subst (λ t. Member (OfHost h, t) (incoming parts i.receiver)) t m))) in
      let to : k.to ≡ place_of (ingress at.device at.port) (actors_of parts) = i.to ∙ ap (λ x. place_of x (actors_of parts)) (r.1 ∙ ap (λ (p : PortRef). ingress p.device p.port) (sym p)) in
      λ n. record { from = e n; to = to n; sort = t n }

  the-links : links_from (net_of parts) place ≡ the-link.link ∷ []
  the-links = only-one the-link.link (links_from (net_of parts) place)
      (distinct-filter (λ l. (link_of (net_of parts) l).from == place) (link_numbers (net_of parts)) (distinct-from 0 (length (net_of parts).links)))
      (member-filter (λ l. (link_of (net_of parts) l).from == place) the-link.link (link_numbers (net_of parts)) (member-from the-link.link 0 (length (net_of parts).links) (omega arith) (let p = the-link.is_link in omega (arith, p)))
      (eq-eqb (link_of (net_of parts) the-link.link).from place (ap (λ k. k.from) the-link.is)))
      (each-imp (λ k. (k < length (net_of parts).links) × (((link_of (net_of parts) k).from == place) ≡ true)) (λ k. k ≡ the-link.link) (links_from (net_of parts) place)
      (λ k b. one-link parts k the-link.link v b.0 the-link.is_link (link-is (link_of (net_of parts) k) (each-index (IsLink parts) (net_of parts).links k no_link (each-link parts v) b.0) (eqb-true (link_of (net_of parts) k).from place b.1) ∙ sym the-link.is))
      (each-both (λ k. k < length (net_of parts).links) (λ k. (link_of (net_of parts) k).from == place) (link_numbers (net_of parts)) (each-below (λ k. k < length (net_of parts).links) (length (net_of parts).links) (λ k p. p))))

  links-of : HostLinks (net_of parts) place
  links-of = record {
    one_in = one-into parts h l;
    out = the-link.link;
    outs = the-links;
    puts_on = ap (filter (λ l. same_sort (link_of (net_of parts) l).sort FromHost)) the-links
        ∙ ap (λ b. cond b (the-link.link ∷ []) []) (ap (λ k. same_sort k.sort FromHost) the-link.is);
    is_out = ap (λ a. place_in 0 the-link.link (links_from (net_of parts) a)) (ap (λ k. k.from) the-link.is) ∙ ap (place_in 0 the-link.link) the-links
        ∙ ap (λ b. if b then 0 else place_in 1 the-link.link []) (eq-eqb the-link.link the-link.link refl);
  }

pub of-parts : (parts : Parts) (a i : ℕ) → IsValid parts → first_clash (takes_used_port parts) [] parts.hosts ≡ None → slice_get (net_of parts).actors a ≡ Some (OfHost i) → HostLinks (net_of parts) a
of-parts parts a i v u e =
    let low : a < length (actors_of parts) = slice_get_within (actors_of parts) a (OfHost i) e in
    let is : actor_of (net_of parts) a ≡ OfHost i = get_or_from_slice_get (actors_of parts) a (OfHost i) nobody e in
    let l : IsActor parts (OfHost i) = subst (IsActor parts) is (each-index (IsActor parts) (actors_of parts) a nobody (each-actor parts) low) in
    subst (HostLinks (net_of parts)) (ap (λ x. place_of x (actors_of parts)) (sym is) ∙ place-at parts a low) (links-of parts i v u l)

-- A unit has at most eight data channels, and takes initiations by one choice at most.

-- How many choices take from links of a sort.

count-from : {A : Type 0} (t : A → Bool) (f : ℕ → Bool) (s : ℕ) (d : A) (xs : List A) → ((i : ℕ) → i < length xs → f (s + i) ≡ t (get_or xs i d)) → length (filter f (range_with_len s (length xs))) ≡ length (filter t xs)
count-from t f s d [] e = refl
count-from t f s d (x ∷ xs) e = ap (λ b. length (if b then s ∷ filter f (range_with_len (s + 1) (length xs)) else filter f (range_with_len (s + 1) (length xs)))) here
    ∙ by_bool (t x) (count-from t f (s + 1) d xs (λ i p. let n : s + 1 + i ≡ s + suc i = omega arith in ap f n ∙ e (suc i) (omega (arith, p))))
  where
    here : f s ≡ t x
    here = let n : s ≡ s + 0 = omega arith in ap f n ∙ e 0 (omega arith)

    by_bool : (b : Bool) → length (filter f (range_with_len (s + 1) (length xs))) ≡ length (filter t xs)
        → length (if b then s ∷ filter f (range_with_len (s + 1) (length xs)) else filter f (range_with_len (s + 1) (length xs))) ≡ length (if b then x ∷ filter t xs else filter t xs)
    by_bool true ih = ap suc ih
    by_bool false ih = ih

count-map : {A B : Type 0} (t : B → Bool) (g : A → B) (xs : List A) → length (filter (λ x. t (g x)) xs) ≡ length (filter t (map g xs))
count-map t g [] = refl
count-map t g (x ∷ xs) = by_bool (t (g x)) (count-map t g xs)
  where
    by_bool : (b : Bool) → length (filter (λ x. t (g x)) xs) ≡ length (filter t (map g xs)) → length (if b then x ∷ filter (λ x. t (g x)) xs else filter (λ x. t (g x)) xs) ≡ length (if b then g x ∷ filter t (map g xs) else filter t (map g xs))
    by_bool true ih = ap suc ih
    by_bool false ih = ih

abbrev pub of_sort : Sort → Incoming → Bool
of_sort s i = same_sort i.1 s

choices-count : (net : Net) (u : ℕ) (s : Sort) → length (choices_of net u s) ≡ length (filter (λ k. same_sort k.sort s) (map (link_of net) (links_into net u)))
choices-count net u s = count-from (λ l. same_sort (link_of net l).sort s) (λ c. same_sort (link_of net (link_at net u c)).sort s) 0 0 (links_into net u)
    (λ i p. let n : 0 + i ≡ i = omega arith in ap (λ c. same_sort (link_of net (link_at net u c)).sort s) n)
    ∙ count-map (λ k. same_sort k.sort s) (link_of net) (links_into net u)

pub incoming-count : (parts : Parts) (u : ℕ) (x : ActorId) (s : Sort) → IsAt parts u x → length (choices_of (net_of parts) u s) ≡ length (filter (of_sort s) (incoming parts x))
incoming-count parts u x s a = choices-count (net_of parts) u s
    ∙ ap (λ ks. length (filter (λ k. same_sort k.sort s) ks)) (subst (λ v. map (link_of (net_of parts)) (links_into (net_of parts) v) ≡ links_to parts (actors_of parts) x) a.place (into-links parts x a.actor))
    ∙ sym (count-map (λ k. same_sort k.sort s) (λ i. record { from = place_of i.0 (actors_of parts); to = place_of x (actors_of parts); sort = i.1 }) (incoming parts x))

-- What comes to a unit.

crossbars : (d : ℕ) (qs : List ℕ) → (length (filter (of_sort Cable) (map (λ q. (ingress d q, Crossbar)) qs ++ (Control d, Poll) ∷ [])) ≡ 0)
    × (length (filter (of_sort Crossbar) (map (λ q. (ingress d q, Crossbar)) qs ++ (Control d, Poll) ∷ [])) ≡ length qs)
crossbars d [] = (refl, refl)
crossbars d (q ∷ qs) = let ih = crossbars d qs in (ih.0, ap suc ih.1)

outside : (d : ℕ) (o : Option ℕ) (e : Option PortRef) → length (filter (of_sort Cable) (from_host_or_cable o e ++ (Control d, Init) ∷ (Control d, Poll) ∷ []))
    + length (filter (of_sort Crossbar) (from_host_or_cable o e ++ (Control d, Init) ∷ (Control d, Poll) ∷ [])) ≤ 8
outside d (Some h) e = omega arith
outside d None (Some q) = omega arith
outside d None None = omega arith

few-incoming : (parts : Parts) (d p : ℕ) (side : Side) → IsValid parts → length (filter (of_sort Cable) (unit_incoming parts d p side)) + length (filter (of_sort Crossbar) (unit_incoming parts d p side)) ≤ 8
few-incoming parts d p Ingress v = let at : PortRef = record { device = d; port = p } in outside d (host_at parts at) (other_end parts.cables at)
few-incoming parts d p Egress v = let c = crossbars d (used_ports parts d) in omega (arith, c.0, c.1, few_used parts d v)

pub few-of : (parts : Parts) (u : ℕ) (i : UnitId) → IsValid parts → actor_of (net_of parts) u ≡ OfUnit i → length (data_channels (net_of parts) u) ≤ 8
few-of parts u i v q = let a = is-at parts u (OfUnit i) q (λ e. cc) in
    omega (arith, length-append (choices_of (net_of parts) u Cable) (choices_of (net_of parts) u Crossbar), incoming-count parts u (OfUnit i) Cable a, incoming-count parts u (OfUnit i) Crossbar a, few-incoming parts i.device i.port i.side v)

-- Initiations come to a unit by at most one choice.

no-inits : (d : ℕ) (qs : List ℕ) → length (filter (of_sort Init) (map (λ q. (ingress d q, Crossbar)) qs ++ (Control d, Poll) ∷ [])) ≡ 0
no-inits d [] = refl
no-inits d (q ∷ qs) = no-inits d qs

one-init : (d : ℕ) (o : Option ℕ) (e : Option PortRef) → length (filter (of_sort Init) (from_host_or_cable o e ++ (Control d, Init) ∷ (Control d, Poll) ∷ [])) ≡ 1
one-init d (Some h) e = refl
one-init d None (Some q) = refl
one-init d None None = refl

few-inits : (parts : Parts) (d p : ℕ) (side : Side) → length (filter (of_sort Init) (unit_incoming parts d p side)) ≤ 1
few-inits parts d p Ingress = let at : PortRef = record { device = d; port = p } in let e = one-init d (host_at parts at) (other_end parts.cables at) in omega (arith, e)
few-inits parts d p Egress = let e = no-inits d (used_ports parts d) in omega (arith, e)

pub inits-of : (parts : Parts) (u : ℕ) (i : UnitId) → actor_of (net_of parts) u ≡ OfUnit i → length (choices_of (net_of parts) u Init) ≤ 1
inits-of parts u i q = let a = is-at parts u (OfUnit i) q (λ e. cc) in omega (arith, incoming-count parts u (OfUnit i) Init a, few-inits parts i.device i.port i.side)

-- The observer's links: by the choice of a device come the Dones of its units.

-- the link from the control plane of a device
abbrev done_link : Parts → ℕ → LinkPart
done_link parts d = link_from parts Observer (Control d, Done)

observer-links : (parts : Parts) → map (link_of (net_of parts)) (links_into (net_of parts) 0) ≡ map (done_link parts) (below (length parts.devices))
observer-links parts = into-links parts Observer tt ∙ map-map (link_from parts Observer) (λ d. (Control d, Done)) (below (length parts.devices))

-- the control plane of a unit's reports is that of its device
reports-device : (parts : Parts) (u : ℕ) (i : UnitId) → IsValid parts → actor_of (net_of parts) u ≡ OfUnit i → (r : Reports (net_of parts) u) → r.device ≡ i.device
reports-device parts u i v q r = let e = ends parts r.poll v r.poll_link in
    let x : e.sender ≡ Control r.device = sym e.from ∙ ap (actor_of (net_of parts)) r.poll_from ∙ r.is_control in
    let y : e.receiver ≡ OfUnit i = sym e.to ∙ ap (actor_of (net_of parts)) r.poll_to ∙ q in
    let j : Joined e.receiver (e.sender, Poll) = subst (λ t. Joined e.receiver (e.sender, t)) r.poll_sort e.joined in
    ap home (sym x) ∙ j.inner refl ∙ ap home y

pub choice-is-device : (parts : Parts) (u : ℕ) (i : UnitId) → IsValid parts → actor_of (net_of parts) u ≡ OfUnit i → (r : Reports (net_of parts) u) → choice_of (net_of parts) r.done ≡ i.device
choice-is-device parts u i v q r = of_control (sym (actor-at parts (Control c) low) ∙ ap (actor_of N) (sym from ∙ r.done_out.from) ∙ r.is_control) ∙ reports-device parts u i v q r
  where
    N : Net
    N = net_of parts

    c : ℕ
    c = choice_of (net_of parts) r.done

    into : slice_get (links_into (net_of parts) 0) (choice_of (net_of parts) r.done) ≡ Some r.done
    into = r.done_taken

    low : choice_of (net_of parts) r.done < length parts.devices
    low = let p = slice_get_within (links_into (net_of parts) 0) (choice_of (net_of parts) r.done) r.done r.done_taken in
        let a = length-map (links_into (net_of parts) 0) (link_of (net_of parts)) in let b = ap length (observer-links parts) in let d = length-map-range_with_len (done_link parts) 0 (length parts.devices) in omega (arith, p, a, b, d)

    from : (link_of (net_of parts) r.done).from ≡ place_of (Control (choice_of (net_of parts) r.done)) (actors_of parts)
    from = ap (λ l. (link_of (net_of parts) l).from) (sym (get_or_from_slice_get (links_into (net_of parts) 0) (choice_of (net_of parts) r.done) r.done 0 r.done_taken))
        ∙ ap (λ k. k.from) (sym (get_or-map (link_of (net_of parts)) (links_into (net_of parts) 0) (choice_of (net_of parts) r.done) 0 no_link (slice_get_within (links_into (net_of parts) 0) (choice_of (net_of parts) r.done) r.done r.done_taken))
        ∙ ap (λ ks. get_or ks (choice_of (net_of parts) r.done) no_link) (observer-links parts)
        ∙ get_or-map-range_with_len (done_link parts) 0 (length parts.devices) (choice_of (net_of parts) r.done) _ no_link low (zero-add (choice_of (net_of parts) r.done)))

    of_control : Control c ≡ Control r.device → c ≡ r.device
    of_control e = cc

-- A net of parts without a fault is wired as the laws of histories ask.

-- the place of an actor of the parts is a number of the net's
place-low : (parts : Parts) (x : ActorId) → IsActor parts x → place_of x (actors_of parts) < length (actors_of parts)
place-low parts x h = let m = place-of-member x (actors_of parts) (actor-member parts x h) in
    let q : place_of x (actors_of parts) ≡ m.0 = sym (ap (λ x. place_of x (actors_of parts)) (m.2 nobody)) ∙ each-place parts m.0 nobody m.1 in omega (arith, m.1, q)

wired : (parts : Parts) → fault_of parts ≡ None → IsWired (net_of parts)
wired parts h = record {
  ways = has-ways (net_of parts);
  observer = refl;
  one_observer = λ a q. one-observer a q;
  sender = λ l p. sender l p;
  receiver = λ l p. receiver l p;
  data_from = λ l p d. data-sender (from l) (link_of (net_of parts) l).sort d (sender l p);
  init_from = λ l p q. (home (from l), init-sender (from l) (subst (λ s. sends (from l) s ≡ true) q (sender l p)));
  done_from = λ l p q. (home (from l), done-sender (from l) (subst (λ s. sends (from l) s ≡ true) q (sender l p)));
  begin_from = λ l p q. one-observer (link_of (net_of parts) l).from (begin-sender (from l) (subst (λ s. sends (from l) s ≡ true) q (sender l p)));
  begin_to = λ l p q. (home (to l), begin-receiver (to l) (subst (λ s. receives (to l) s ≡ true) q (receiver l p)));
  poll_from = λ l p q. (home (from l), poll-sender (from l) (subst (λ s. sends (from l) s ≡ true) q (sender l p)));
  poll_to = λ l p q. poll-receiver (to l) (subst (λ s. receives (to l) s ≡ true) q (receiver l p));
  ends = λ l p. has-ends l p;
  one_link = λ l k p q f t s. let x = link_of (net_of parts) l in let y = link_of (net_of parts) k in
      one-link parts l k v p q (ap (λ n. record { from = n; to = x.to; sort = x.sort }) f ∙ ap (λ n. record { from = y.from; to = n; sort = x.sort }) t ∙ ap (λ z. record { from = y.from; to = y.to; sort = z }) s);
  to_actor = λ l p. let e = ends parts l v p in let t : (link_of (net_of parts) l).to ≡ place_of e.receiver (actors_of parts) = ap (λ k. k.to) e.is in
      let low : place_of e.receiver (actors_of parts) < length (actors_of parts) = place-low parts e.receiver e.is_receiver in omega (arith, t, low);
  begins = λ a d q. begins parts a d q;
  begin_first = λ a c l k q. begin-first parts a c l v k q;
  reports = λ u i q. reports parts u i v q;
  valid = v;
  few_hosts = few;
  few_actors = few_actors parts v few;
  few_used = λ d. few_used parts d v;
  actor = λ a p. each-index (IsActor parts) (actors_of parts) a nobody (each-actor parts) p;
  actor_at = λ x h. actor-at parts x h;
  place_low = λ x h. place-low parts x h;
  numbered = λ a x q ne. (is-at parts a x q ne).place;
  place = λ a p. place-at parts a p;
  host_links = λ a i q. of-parts parts a i v (faultless parts h).hosts_apart q;
  few_channels = λ u i q. few-of parts u i v q;
  one_init = λ u i q. inits-of parts u i q;
  done_choice = λ u i q r. choice-is-device parts u i v q r;
}
  where
    v : IsValid parts
    v = (faultless parts h).valid

    few : length parts.hosts ≤ 128
    few = (faultless parts h).few_hosts

    from : ℕ → ActorId
    from l = actor_of (net_of parts) (link_of (net_of parts) l).from

    to : ℕ → ActorId
    to l = actor_of (net_of parts) (link_of (net_of parts) l).to

    has-ends : (l : ℕ) → l < length (net_of parts).links → HasEnds (net_of parts) l
    has-ends l p = let e = ends parts l v p in record {
      sender = e.sender;
      receiver = e.receiver;
      is_sender = e.is_sender;
      is_receiver = e.is_receiver;
      from = ap (λ k. k.from) e.is;
      to = ap (λ k. k.to) e.is;
      from_is = e.from;
      to_is = e.to;
      listed = e.listed;
      sent = e.joined.sent;
      received = e.joined.received;
      inner = e.joined.inner;
    }

    one-observer : (a : ℕ) → actor_of (net_of parts) a ≡ Observer → a ≡ 0
    one-observer a q = sym (is-at parts a Observer q (λ e. cc)).place

    sender : (l : ℕ) → l < length (net_of parts).links → sends (from l) (link_of (net_of parts) l).sort ≡ true
    sender l p = let e = ends parts l v p in subst (λ x. sends x (link_of (net_of parts) l).sort ≡ true) (sym e.from) e.joined.sent

    receiver : (l : ℕ) → l < length (net_of parts).links → receives (to l) (link_of (net_of parts) l).sort ≡ true
    receiver l p = let e = ends parts l v p in subst (λ x. receives x (link_of (net_of parts) l).sort ≡ true) (sym e.to) e.joined.received

pub net-wired : (net : Net) → IsNet net → IsWired net
net-wired net n = subst IsWired (sym n.made) (wired net.parts n.right)
