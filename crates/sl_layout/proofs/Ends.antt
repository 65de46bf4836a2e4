-- How many actors and links a net has at most, the order of its links at each end, and that its wiring is sound.
use Rattle.std.proofs.Common.{◌≡◌, ℕ, suc, ◌<◌, ◌≤◌, [], ◌∷◌, length, arith, map, length-append, List, refl, sym, ap, subst, ◌∙◌, Option, Some, None, inl, inr, get_or, Bool, false, ◌≢◌, zero, ◌+◌, eq-eqb, eqb-true, zero-add}
use Rattle.std.specs.Prelude.{true, flat_map, ◌⊎◌, cond, ◌==◌, if◌then◌else◌, filter, slice_get, slice_index, ◌&&◌}
use Rattle.std.specs.List.{All, range_with_len}
use Rattle.std.proofs.lemmas.List.{length-map, get_or-map}
use Rattle.std.proofs.lemmas.List.FromFn.{length-range_with_len, get_or-map-range_with_len, length-map-range_with_len}
use Rattle.sl_layout.specs.declared.actor.ActorId.{ActorId}
use Rattle.sl_layout.specs.declared.actor.ActorId.TheVariants.{Observer, Control, Unit as OfUnit, Host as OfHost}
use Rattle.sl_parts.specs.Parts.{Parts, below, is_used, ports_of, used_ports, other_end, host_at}
use Rattle.sl_layout.specs.Net.{units_of, actors_of, ingress, egress, Net, net_of, no_link, link_numbers, links_into, links_from, choice_of, place_in, same_actor, Incoming, incoming, unit_incoming, from_outside, from_host_or_cable, to_host, place_of, links_to, nobody, link_of}
use Rattle.sl_layout.specs.Roster.{IsFew, IsActor}
use Rattle.sl_parts.specs.Valid.{IsValid}
use Rattle.sl_parts.proofs.Lists.{length_flat_le, each-imp, each-of, all-from_each, each-map, each-from_all, distinct-filter, distinct-from, member-filter, member-from, inside, each-below, each-both, each-index, Distinct}
use Rattle.sl_layout.proofs.Actors.{each-actor, each-sender, each-used, same_actor_refl, actor-member, IsLink, IsSender, each-link}
use Rattle.std.proofs.Math.ListN.{get_or-map as get_or-map_past}
use Rattle.sl_layout.specs.declared.actor.Side.{Side}
use Rattle.sl_layout.specs.declared.actor.Side.TheVariants.{Ingress, Egress}
use Rattle.sl_layout.specs.declared.actor.Sort.TheVariants.{Crossbar, Init, Poll, Notice, Dump, Done}
use Rattle.sl_layout.specs.declared.actor.LinkPart.{LinkPart}
use Rattle.sl_parts.specs.declared.parts.PortRef.{PortRef}
use Rattle.sl_parts.specs.declared.parts.HostPart.{HostPart}
use Rattle.sl_layout.specs.declared.wires.End.{End}
use Rattle.sl_layout.specs.declared.wires.End.TheVariants.{Receiver, Sender}
use Rattle.sl_layout.specs.Ends.{actor_at, links_at, place_at}
use Rattle.sl_layout.specs.Groups.{grouped, places_in_groups, Sorted}
use Rattle.sl_layout.specs.Wires.{HasEnds, out_of, AreWires}
use Rattle.sl_parts.specs.Lists.{Member}
use Rattle.sl_layout.proofs.Grouping.{few_filter, map_same}
use Rattle.std.proofs.lemmas.Bool.{and_parts, and_from, cases_lt, false_from_ne_true}
use Rattle.std.proofs.lemmas.Bool.Decides.{eqb_tells}
use Rattle.sl_machine.specs.Plan.{IsSound, link_in, link_out, link_at as wired_at}
use Rattle.sl_layout.specs.Wiring.{actions_of, wired_link, plan_of}

pub few_used : (parts : Parts) (d : ℕ) → IsValid parts → length (used_ports parts d) ≤ 8
few_used parts d v = omega (arith, few_filter (λ p. is_used parts (record { device = d; port = p })) (ports_of parts d), v.ports d)

pub few_units : (parts : Parts) (d : ℕ) → IsValid parts → length (units_of parts d) ≤ 16
few_units parts d v = omega (arith, length_flat_le (λ p. ingress d p ∷ egress d p ∷ []) 2 (used_ports parts d) (each-of (λ p. 2 ≤ 2) (used_ports parts d) (λ p m. omega arith)), few_used parts d v)

pub few_actors : (parts : Parts) → IsValid parts → length parts.hosts ≤ 128 → length (actors_of parts) ≤ 1217
few_actors parts v h =
    let devices = flat_map (λ d. Control d ∷ units_of parts d) (below (length parts.devices)) in
    let hosts = map OfHost (below (length parts.hosts)) in
    omega (
      arith,
      length-append devices hosts,
      length-map (below (length parts.hosts)) OfHost,
      length-range_with_len 0 (length parts.hosts),
      length-range_with_len 0 (length parts.devices),
      v.devices,
      length_flat_le (λ d. Control d ∷ units_of parts d) 17 (below (length parts.devices)) (each-of (λ d. suc (length (units_of parts d)) ≤ 17) (below (length parts.devices)) (λ d m. omega (arith, few_units parts d v))),
    )

few_of : (parts : Parts) → IsValid parts → length parts.hosts ≤ 128 → (a : ActorId) → IsActor parts a → IsFew a
few_of parts v h Observer k = tt
few_of parts v h (Control d) k = omega (arith, v.devices)
few_of parts v h (OfUnit u) k = (omega (arith, v.devices, k.0), omega (arith, v.ports u.device, k.1))
few_of parts v h (OfHost i) k = omega arith

pub all_few : (parts : Parts) → IsValid parts → length parts.hosts ≤ 128 → All IsFew (actors_of parts)
all_few parts v h = all-from_each IsFew (actors_of parts) (each-imp (IsActor parts) IsFew (actors_of parts) (few_of parts v h) (each-actor parts))

pub incoming_few : (parts : Parts) (a : ActorId) → IsValid parts → length parts.hosts ≤ 128 → IsActor parts a → All (λ (i : Incoming). IsFew i.0) (incoming parts a)
incoming_few parts a v h k = all-from_each (λ (i : Incoming). IsFew i.0) (incoming parts a) (each-imp (IsSender parts) (λ i. IsFew i.0) (incoming parts a) (λ i s. few_of parts v h i.0 s.0) (each-sender parts a v k))

pub small_ports : (parts : Parts) (d : ℕ) → IsValid parts → All (λ p. p < 8) (used_ports parts d)
small_ports parts d v = all-from_each (λ p. p < 8) (used_ports parts d) (each-imp (λ p. (p < ports_of parts d) × (is_used parts (record { device = d; port = p }) ≡ true)) (λ p. p < 8) (used_ports parts d) (λ p h. omega (arith, h.0, v.ports d)) (each-used parts d))

-- The ends of a net's links, how many links there are, and their order at each end.

-- In range.

pub place_low : (a : ActorId) (xs : List ActorId) → Member a xs → place_of a xs < length xs
place_low a [] m = absurd m
place_low a (x ∷ xs) m = by_bool (place_low a xs) (same_actor a x) refl m
  where
    by_bool : (Member a xs → place_of a xs < length xs) → (b : Bool) → same_actor a x ≡ b → (a ≡ x) ⊎ Member a xs → (if b then 0 else suc (place_of a xs)) < suc (length xs)
    by_bool ih true q m = omega arith
    by_bool ih false q (inl e) = absurd (let z : true ≡ false = sym (same_actor_refl a) ∙ ap (same_actor a) e ∙ q in cc)
    by_bool ih false q (inr m) = let k : place_of a xs < length xs = ih m in omega arith

pub all_ends : (parts : Parts) → IsValid parts → All (HasEnds (net_of parts)) (net_of parts).links
all_ends parts v = all-from_each (HasEnds (net_of parts)) (net_of parts).links (each-imp (IsLink parts) (HasEnds (net_of parts)) (net_of parts).links
    (λ k i. record {
      from = subst (λ n. n < length (actors_of parts)) (sym i.from) (place_low i.sender (actors_of parts) (actor-member parts i.sender i.is_sender));
      to = subst (λ n. n < length (actors_of parts)) (sym i.to) (place_low i.receiver (actors_of parts) (actor-member parts i.receiver i.is_receiver));
    })
    (each-link parts v))

-- How many.

few_outside : (x : Option ℕ) (y : Option PortRef) → length (from_host_or_cable x y) ≤ 1
few_outside (Some h) y = omega arith
few_outside None (Some e) = omega arith
few_outside None None = omega arith

few_to_host : (o : Option PortRef) → length (to_host o) ≤ 1
few_to_host None = omega arith
few_to_host (Some p) = omega arith

few_to_unit : (parts : Parts) (d p : ℕ) (s : Side) → IsValid parts → length (unit_incoming parts d p s) ≤ 64
few_to_unit parts d p Ingress v = omega (
  arith,
  few_outside (host_at parts (record { device = d; port = p })) (other_end parts.cables (record { device = d; port = p })),
  length-append (from_outside parts (record { device = d; port = p })) ((Control d, Init) ∷ (Control d, Poll) ∷ []),
)
few_to_unit parts d p Egress v =
    let xs : List Incoming = map (λ q. (ingress d q, Crossbar)) (used_ports parts d) in
    omega (arith, length-append xs ((Control d, Poll) ∷ []), length-map {B = Incoming} (used_ports parts d) (λ q. (ingress d q, Crossbar)), few_used parts d v)

few_incoming : (parts : Parts) (a : ActorId) → IsValid parts → length (incoming parts a) ≤ 64
few_incoming parts Observer v = omega (arith, length-map {B = Incoming} (below (length parts.devices)) (λ d. (Control d, Done)), length-range_with_len 0 (length parts.devices), v.devices)
few_incoming parts (Control d) v = omega (
  arith,
  few_units parts d v,
  length_flat_le {B = Incoming} (λ u. (u, Notice) ∷ (u, Dump) ∷ []) 2 (units_of parts d) (each-of (λ u. 2 ≤ 2) (units_of parts d) (λ u m. omega arith)),
)
few_incoming parts (OfUnit u) v = few_to_unit parts u.device u.port u.side v
few_incoming parts (OfHost h) v = omega (arith, few_to_host (slice_get (map (λ (part : HostPart). part.at) parts.hosts) h))

pub few_links : (parts : Parts) → IsValid parts → length (actors_of parts) ≤ 1217 → length (net_of parts).links ≤ 77888
few_links parts v few = omega (
  arith,
  few,
  length_flat_le (links_to parts (actors_of parts)) 64 (actors_of parts) (each-of (λ a. length (links_to parts (actors_of parts) a) ≤ 64) (actors_of parts)
      (λ a m. omega (arith, length-map {B = LinkPart} (incoming parts a) (λ (i : Incoming). record { from = place_of i.0 (actors_of parts); to = place_of a (actors_of parts); sort = i.1 }), few_incoming parts a v))),
)

-- Sorted by an end.

pub filter_same : (p q : ℕ → Bool) (xs : List ℕ) → ((x : ℕ) → p x ≡ q x) → filter p xs ≡ filter q xs
filter_same p q [] h = refl
filter_same p q (x ∷ xs) h = ap (λ b. cond b (x ∷ filter p xs) (filter p xs)) (h x) ∙ ap (λ r. cond (q x) (x ∷ r) r) (filter_same p q xs h)

key_at : (f : LinkPart → ℕ) (links : List LinkPart) (l : ℕ) → f no_link ≡ 0 → slice_index (map f links) l ≡ f (get_or links l no_link)
key_at f links l z = ap (λ n. get_or (map f links) l n) (sym z) ∙ get_or-map_past f links l no_link

sorted-is : (f : LinkPart → ℕ) (links : List LinkPart) (a : ℕ) → f no_link ≡ 0 → grouped (map f links) (length (map f links)) a ≡ filter (λ l. f (get_or links l no_link) == a) (below (length links))
sorted-is f links a z = ap (λ n. grouped (map f links) n a) (length-map links f)
    ∙ filter_same (λ l. slice_index (map f links) l == a) (λ l. f (get_or links l no_link) == a) (below (length links)) (λ l. ap (λ n. n == a) (key_at f links l z))

no-actor : (end : End) → actor_at end no_link ≡ 0
no-actor Receiver = refl
no-actor Sender = refl

pub lists-sorted : (net : Net) (end : End) (count : ℕ) → map (grouped (map (actor_at end) net.links) (length (map (actor_at end) net.links))) (below count) ≡ map (links_at net end) (below count)
lists-sorted net end count = map_same (grouped (map (actor_at end) net.links) (length (map (actor_at end) net.links))) (links_at net end) count (λ a h. sorted-is (actor_at end) net.links a (no-actor end))

pub places-sorted : (net : Net) (end : End) → map (places_in_groups (map (actor_at end) net.links)) (below (length (map (actor_at end) net.links))) ≡ map (place_at net end) (link_numbers net)
places-sorted net end = ap (λ n. map (places_in_groups keys) (below n)) (length-map net.links (actor_at end)) ∙ map_same (places_in_groups keys) (place_at net end) (length net.links)
    (λ l h. ap (λ a. place_in 0 l (grouped keys (length keys) a)) (key_at (actor_at end) net.links l (no-actor end)) ∙ ap (place_in 0 l) (sorted-is (actor_at end) net.links (actor_at end (link_of net l)) (no-actor end)))
  where
    keys : List ℕ
    keys = map (actor_at end) net.links

-- The keys are actors' numbers, and few.

pub keys-low : (parts : Parts) (end : End) → IsValid parts → All (λ n. n < length (actors_of parts)) (map (actor_at end) (net_of parts).links)
keys-low parts end v = all-from_each (λ n. n < length (actors_of parts)) (map (actor_at end) (net_of parts).links)
    (each-map (λ n. n < length (actors_of parts)) (actor_at end) (net_of parts).links
    (each-imp (HasEnds (net_of parts)) (λ k. actor_at end k < length (actors_of parts)) (net_of parts).links (low end) (each-from_all (HasEnds (net_of parts)) (net_of parts).links (all_ends parts v))))
  where
    low : (end : End) (k : LinkPart) → HasEnds (net_of parts) k → actor_at end k < length (actors_of parts)
    low Receiver k e = e.to
    low Sender k e = e.from

pub few_keys : (parts : Parts) (end : End) → IsValid parts → length (actors_of parts) ≤ 1217 → length (map (actor_at end) (net_of parts).links) ≤ 77888
few_keys parts end v few = omega (arith, length-map (net_of parts).links (actor_at end), few_links parts v few)

-- The wiring of a net is sound: each link has a place of its own at both ends, and no place there is empty.

-- Places in a list with no element twice.

place-found : (n x : ℕ) (xs : List ℕ) → Member x xs → (i : ℕ) × (place_in n x xs ≡ n + i) × (i < length xs) × (get_or xs i 0 ≡ x)
place-found n x [] m = absurd m
place-found n x (y ∷ xs) m = by_test (λ k. place-found (suc n) x xs k) (eqb_tells y x) m
  where
    by_test : (Member x xs → (i : ℕ) × (place_in (suc n) x xs ≡ suc n + i) × (i < length xs) × (get_or xs i 0 ≡ x))
        → (((y == x) ≡ true) × (y ≡ x)) ⊎ (((y == x) ≡ false) × (y ≢ x)) → (x ≡ y) ⊎ Member x xs
        → (i : ℕ) × ((if y == x then n else place_in (suc n) x xs) ≡ n + i) × (i < suc (length xs)) × (get_or (y ∷ xs) i 0 ≡ x)
    by_test ih (inl e) k = (0, ap (λ b. if b then n else place_in (suc n) x xs) e.0 ∙ omega arith, omega arith, e.1)
    by_test ih (inr e) (inl k) = absurd (e.1 (sym k))
    by_test ih (inr e) (inr k) = let f = ih k in (suc f.0, ap (λ b. if b then n else place_in (suc n) x xs) e.0 ∙ f.1 ∙ omega arith, omega (arith, f.2), f.3)

place-at : (n : ℕ) (xs : List ℕ) (i : ℕ) → Distinct xs → i < length xs → place_in n (get_or xs i 0) xs ≡ n + i
place-at n [] i d h = absurd (omega arith)
place-at n (x ∷ xs) zero d h = ap (λ b. if b then n else place_in (suc n) x xs) (eq-eqb x x refl) ∙ omega arith
place-at n (x ∷ xs) (suc i) d h = by_test (place-at (suc n) xs i d.1 (omega arith)) (eqb_tells x (get_or xs i 0))
  where
    by_test : place_in (suc n) (get_or xs i 0) xs ≡ suc n + i → (((x == get_or xs i 0) ≡ true) × (x ≡ get_or xs i 0)) ⊎ (((x == get_or xs i 0) ≡ false) × (x ≢ get_or xs i 0))
        → (if x == get_or xs i 0 then n else place_in (suc n) (get_or xs i 0) xs) ≡ n + suc i
    by_test ih (inl e) = absurd (d.0 (subst (λ y. Member y xs) (sym e.1) (inside xs i 0 (omega arith))))
    by_test ih (inr e) = ap (λ b. if b then n else place_in (suc n) (get_or xs i 0) xs) e.0 ∙ ih ∙ omega arith

-- The first number that passes.

abbrev first : (ℕ → Bool) → ℕ → ℕ → ℕ
first t s zero = 0
first t s (suc c) = if t s then 0 else first t (s + 1) c + 1

first-is : (t : ℕ → Bool) (s c l : ℕ) → s ≤ l → l < s + c → t l ≡ true → ((k : ℕ) → k < l → t k ≡ false) → s + first t s c ≡ l
first-is t s zero l a b q f = absurd (omega arith)
first-is t s (suc c) l a b q f = by_order (λ j. first-is t (s + 1) c l j (omega arith) q f) (cases_lt s l)
  where
    by_order : (s + 1 ≤ l → s + 1 + first t (s + 1) c ≡ l) → (s < l) ⊎ (l ≤ s) → s + (if t s then 0 else first t (s + 1) c + 1) ≡ l
    by_order ih (inl k) = ap (λ b. s + (if b then 0 else first t (s + 1) c + 1)) (f s k) ∙ omega (arith, ih (omega arith))
    by_order ih (inr k) = let e : l ≡ s = omega arith in ap (λ b. s + (if b then 0 else first t (s + 1) c + 1)) (ap t (sym e) ∙ q) ∙ omega arith

-- Numbers grouped by a key, each with its place in its group.

abbrev group_of : (ℕ → ℕ) → ℕ → ℕ → List ℕ
group_of key n a = filter (λ l. key l == a) (below n)

abbrev rank : (ℕ → ℕ) → ℕ → ℕ → ℕ
rank key n l = place_in 0 l (group_of key n (key l))

group-distinct : (key : ℕ → ℕ) (n a : ℕ) → Distinct (group_of key n a)
group-distinct key n a = distinct-filter (λ l. key l == a) (below n) (distinct-from 0 n)

in-group : (key : ℕ → ℕ) (n l : ℕ) → l < n → Member l (group_of key n (key l))
in-group key n l h = member-filter (λ k. key k == key l) l (below n) (member-from l 0 n (omega arith) (omega arith)) (eq-eqb (key l) (key l) refl)

of-group : (key : ℕ → ℕ) (n a i : ℕ) → i < length (group_of key n a) → (get_or (group_of key n a) i 0 < n) × (key (get_or (group_of key n a) i 0) ≡ a)
of-group key n a i h =
    let e = each-index (λ l. (l < n) × ((key l == a) ≡ true)) (group_of key n a) i 0 (each-both (λ l. l < n) (λ l. key l == a) (below n) (each-below (λ l. l < n) n (λ l k. k))) h in
    (e.0, eqb-true (key (get_or (group_of key n a) i 0)) a e.1)

pub rank_low : (key : ℕ → ℕ) (n l : ℕ) → l < n → rank key n l < length (group_of key n (key l))
rank_low key n l h = let f = place-found 0 l (group_of key n (key l)) (in-group key n l h) in omega (arith, f.1, f.2)

rank-once : (key : ℕ → ℕ) (n k l : ℕ) → k < n → l < n → key k ≡ key l → rank key n k ≡ rank key n l → k ≡ l
rank-once key n k l h j e r =
    let f = place-found 0 k (group_of key n (key k)) (in-group key n k h) in
    let g = place-found 0 l (group_of key n (key l)) (in-group key n l j) in
    let same : f.0 ≡ g.0 = omega (arith, f.1, g.1, r) in
    sym f.3 ∙ ap (λ i. get_or (group_of key n (key k)) i 0) same ∙ ap (λ a. get_or (group_of key n a) g.0 0) e ∙ g.3

abbrev is_at : (ℕ → ℕ) → ℕ → ℕ → ℕ → ℕ → Bool
is_at key n a o l = (key l == a) && (rank key n l == o)

pub first_once : (key : ℕ → ℕ) (n l : ℕ) → l < n → first (is_at key n (key l) (rank key n l)) 0 n ≡ l
first_once key n l h = let e : 0 + first (is_at key n (key l) (rank key n l)) 0 n ≡ l
    = first-is (is_at key n (key l) (rank key n l)) 0 n l (omega arith) (omega arith) (and_from _ _ (eq-eqb (key l) (key l) refl) (eq-eqb (rank key n l) (rank key n l) refl)) none in omega (arith, e)
  where
    none : (k : ℕ) → k < l → is_at key n (key l) (rank key n l) k ≡ false
    none k j = false_from_ne_true (is_at key n (key l) (rank key n l) k) (λ q. let both = and_parts _ _ q in
        let e : k ≡ l = rank-once key n k l (omega arith) h (eqb-true (key k) (key l) both.0) (eqb-true (rank key n k) (rank key n l) both.1) in omega arith)

pub first_each : (key : ℕ → ℕ) (n a o : ℕ) → o < length (group_of key n a) → first (is_at key n a o) 0 n < n
first_each key n a o h =
    let l = get_or (group_of key n a) o 0 in
    let of = of-group key n a o h in
    let place : rank key n l ≡ o = ap (λ b. place_in 0 l (group_of key n b)) of.1 ∙ place-at 0 (group_of key n a) o (group-distinct key n a) h ∙ omega arith in
    let e : first (is_at key n a o) 0 n ≡ l = ap (λ b. first (is_at key n b o) 0 n) (sym of.1) ∙ ap (λ p. first (is_at key n (key l) p) 0 n) (sym place) ∙ first_once key n l of.0 in
    omega (arith, e, of.0)

-- The wiring.

wired-out : (net : Net) (s c a o : ℕ) → link_out (map (wired_link net) (range_with_len s c)) a o ≡ first (λ l. ((link_of net l).from == a) && (out_of net l == o)) s c
wired-out net s zero a o = refl
wired-out net s (suc c) a o = ap (λ n. if ((link_of net s).from == a) && (out_of net s == o) then 0 else n + 1) (wired-out net (s + 1) c a o)

wired-in : (net : Net) (s c a o : ℕ) → link_in (map (wired_link net) (range_with_len s c)) a o ≡ first (λ l. ((link_of net l).to == a) && (choice_of net l == o)) s c
wired-in net s zero a o = refl
wired-in net s (suc c) a o = ap (λ n. if ((link_of net s).to == a) && (choice_of net s == o) then 0 else n + 1) (wired-in net (s + 1) c a o)

few_actions : (a : ActorId) → actions_of a ≤ 2
few_actions Observer = omega arith
few_actions (Control d) = omega arith
few_actions (OfUnit u) = omega arith
few_actions (OfHost h) = omega arith

pub sound : (net : Net) → length net.actors ≤ 1217 → length net.links ≤ 77888 → ((l : ℕ) → l < length net.links → HasEnds net (link_of net l)) → IsSound (plan_of net)
sound net actors_few links_few ends = record {
  outs_each = length-map-range_with_len (λ a. length (links_from net a)) 0 n ∙ sym ins;
  actions_each = length-map net.actors actions_of ∙ sym ins;
  actors_fit = omega (arith, ins);
  links_fit = omega (arith, count);
  choices_fit = λ a h. omega (arith, ins_at a (omega (arith, ins, h)), few_filter (λ l. (link_of net l).to == a) m, few_at a (omega (arith, ins, h)));
  from_below = λ l h. subst (λ k. k.from < length (plan_of net).ins) (sym (wire l (omega (arith, count, h)))) (omega (arith, ins, (ends l (omega (arith, count, h))).from));
  to_below = λ l h. subst (λ k. k.to < length (plan_of net).ins) (sym (wire l (omega (arith, count, h)))) (omega (arith, ins, (ends l (omega (arith, count, h))).to));
  out_below = λ l h. subst (λ k. k.out < slice_index (plan_of net).outs k.from) (sym (wire l (omega (arith, count, h))))
      (subst (λ x. out_of net l < x) (sym (outs_at (link_of net l).from (ends l (omega (arith, count, h))).from)) (rank_low (λ l. (link_of net l).from) m l (omega (arith, count, h))));
  choice_below = λ l h. subst (λ k. k.choice < slice_index (plan_of net).ins k.to) (sym (wire l (omega (arith, count, h))))
      (subst (λ x. choice_of net l < x) (sym (ins_at (link_of net l).to (ends l (omega (arith, count, h))).to)) (rank_low (λ l. (link_of net l).to) m l (omega (arith, count, h))));
  once_out = λ l h. subst (λ k. link_out (plan_of net).links k.from k.out ≡ l) (sym (wire l (omega (arith, count, h))))
      (wired-out net 0 m (link_of net l).from (out_of net l) ∙ first_once (λ l. (link_of net l).from) m l (omega (arith, count, h)));
  once_in = λ l h. subst (λ k. link_in (plan_of net).links k.to k.choice ≡ l) (sym (wire l (omega (arith, count, h))))
      (wired-in net 0 m (link_of net l).to (choice_of net l) ∙ first_once (λ l. (link_of net l).to) m l (omega (arith, count, h)));
  each_out = λ a o h k. let few : o < length (links_from net a) = subst (λ x. o < x) (outs_at a (omega (arith, ins, h))) k in
      subst (λ x. x < length (plan_of net).links) (sym (wired-out net 0 m a o)) (omega (arith, count, first_each (λ l. (link_of net l).from) m a o few));
  each_in = λ a c h k. let few : c < length (links_into net a) = subst (λ x. c < x) (ins_at a (omega (arith, ins, h))) k in
      subst (λ x. x < length (plan_of net).links) (sym (wired-in net 0 m a c)) (omega (arith, count, first_each (λ l. (link_of net l).to) m a c few));
}
  where
    n : ℕ
    n = length net.actors

    m : ℕ
    m = length net.links

    ins : length (plan_of net).ins ≡ length net.actors
    ins = length-map-range_with_len (λ a. length (links_into net a)) 0 (length net.actors)

    count : length (plan_of net).links ≡ length net.links
    count = length-map-range_with_len (wired_link net) 0 (length net.links)

    ins_at : (a : ℕ) → a < length net.actors → slice_index (plan_of net).ins a ≡ length (links_into net a)
    ins_at a h = get_or-map-range_with_len (λ a. length (links_into net a)) 0 (length net.actors) a _ 0 h (zero-add a)

    outs_at : (a : ℕ) → a < length net.actors → slice_index (plan_of net).outs a ≡ length (links_from net a)
    outs_at a h = get_or-map-range_with_len (λ a. length (links_from net a)) 0 (length net.actors) a _ 0 h (zero-add a)

    few_at : (a : ℕ) → a < length net.actors → slice_index (plan_of net).actions a ≤ 2
    few_at a h = subst (λ k. k ≤ 2) (sym (get_or-map actions_of net.actors a nobody 0 h)) (few_actions (get_or net.actors a nobody))

    wire : (l : ℕ) → l < length net.links → wired_at (plan_of net).links l ≡ wired_link net l
    wire l h = get_or-map-range_with_len (wired_link net) 0 (length net.links) l _ _ h (zero-add l)

pub sound_wires : (parts : Parts) (links : List LinkPart) (into from : Sorted) → AreWires parts links into from → IsSound (plan_of (net_of parts))
sound_wires parts links into from w = sound (net_of parts) w.few_actors (subst (λ ks. length ks ≤ 77888) w.links_are w.few) (λ l h. subst (All (HasEnds (net_of parts))) w.links_are w.ends l no_link h)
