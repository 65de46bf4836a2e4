-- How many links of initiations, cables and crossbars a net has at most beside its units: only units take from these, and each port has two
use Rattle.std.proofs.Common.{◌*◌, ◌+◌, ◌≤◌, List, None, Option, Some, ap, get_or, length, refl, suc, sym, ℕ, ◌∙◌, ◌∷◌, ◌≡◌, arith, [], ◌<◌, ◌^◌, subst, zero, add-mul, mul-add}
use Rattle.std.specs.Prelude.{Bool, false, filter, flat_map, if◌then◌else◌, map, slice_get}
use Rattle.sl_layout.specs.Net.{Incoming, Net, actor_of, actors_of, egress, from_host_or_cable, from_outside, incoming, ingress, is_unit, link_numbers, link_of, links_to, net_of, nobody, place_of, same_sort, to_host, units, units_of}
use Rattle.std.proofs.lemmas.List.Sums.{length-filter, count_by-le-length, sum_by-cons}
use Rattle.sl_parts.specs.Parts.{Parts, below, host_at, other_end, used_ports}
use Rattle.sl_net.specs.Wired.{IsWired, IsNet}
use Rattle.sl_layout.specs.declared.actor.ActorId.{ActorId}
use Rattle.sl_layout.specs.declared.actor.ActorId.TheVariants.{Control, Host as OfHost, Observer}
use Rattle.sl_layout.specs.declared.actor.LinkPart.{LinkPart}
use Rattle.sl_layout.specs.declared.actor.Sort.{Sort}
use Rattle.sl_layout.specs.declared.actor.Sort.TheVariants.{Begin, Cable, Crossbar, Done, Dump, FromHost, Init, Notice, Poll, ToHost}
use Rattle.sl_parts.specs.declared.parts.HostPart.{HostPart}
use Rattle.sl_parts.specs.declared.parts.PortRef.{PortRef}
use Rattle.sl_model.specs.Bound.{links_of_sort, bound, bound_of, frame_count, input_bound, is_sweep}
use Rattle.sl_model.specs.Words.{tally, weigh}
use Rattle.std.proofs.lemmas.List.{length-map}
use Rattle.sl_model.proofs.Bounded.Prices.{weigh-map}
use Rattle.sl_model.proofs.Lists.Weighed.{tally-is, weigh-append, weigh-at-most, weigh-each, weigh-flat, weigh-nothing, weigh-ones-is, weigh-same-each, weigh-times}
use Rattle.sl_model.proofs.Bounded.BoundedTurns.{mul-right}
use Rattle.std.specs.List.{sum}
use Rattle.std.proofs.lemmas.List.FromFn.{fill_by_all, length-range_with_len}
use Rattle.sl_net.specs.Input.{Input}
use Rattle.sl_net.specs.declared.input.Flow.{Flow}
use Rattle.sl_model.specs.Setup.{Setup, setup_of}
use Rattle.sl_model.proofs.Finishing.NetWiring.{wiring}
use Rattle.sl_model.proofs.Finishing.Finished.{mul-le}

abbrev is_of : Sort → Incoming → Bool
is_of t i = same_sort i.1 t

-- how many links of a sort an actor takes from
abbrev taken : Parts → Sort → ActorId → ℕ
taken parts t a = tally (is_of t) (incoming parts a)

-- The links of a sort, counted at the actors that take from them.

links-counted : (parts : Parts) → IsWired (net_of parts) → (t : Sort) → links_of_sort (net_of parts) t ≡ weigh (taken parts t) (actors_of parts)
links-counted parts v t =
    tally-is (λ l. test (link_of net l)) (link_numbers net)
    ∙ sym (length-map kept (link_of net))
    ∙ ap length (v.ways.numbers test)
    ∙ sym (tally-is test net.links)
    ∙ weigh-flat (λ k. if test k then 1 else 0) (links_to parts (actors_of parts)) (actors_of parts)
    ∙ weigh-same-each (λ a. tally test (links_to parts (actors_of parts) a)) (taken parts t) (actors_of parts) into
  where
    net : Net
    net = net_of parts

    test : LinkPart → Bool
    test k = same_sort k.sort t

    kept : List ℕ
    kept = filter (λ l. test (link_of net l)) (link_numbers net)

    into : (a : ActorId) → tally test (links_to parts (actors_of parts) a) ≡ taken parts t a
    into a = weigh-map (λ k. if test k then 1 else 0) (λ (i : Incoming). record { from = place_of i.0 (actors_of parts); to = place_of a (actors_of parts); sort = i.1 }) (incoming parts a)

-- Only units take from links of the sort.

record IsOfUnits (parts : Parts) (t : Sort) (most : ℕ) : Type 0 where
  observer : taken parts t Observer ≤ 0
  control : (d : ℕ) → taken parts t (Control d) ≤ 0
  host : (h : ℕ) → taken parts t (OfHost h) ≤ 0
  port : (d p : ℕ) → taken parts t (ingress d p) + taken parts t (egress d p) ≤ most

-- the used ports of all devices
abbrev ports_in : Parts → ℕ
ports_in parts = weigh (λ d. length (used_ports parts d)) (below (length parts.devices))

few-taken : (parts : Parts) (t : Sort) (most : ℕ) → IsWired (net_of parts) → IsOfUnits parts t most → links_of_sort (net_of parts) t ≤ most * ports_in parts
few-taken parts t most v u = omega (
  arith,
  links-counted parts v t,
  u.observer,
  weigh-append f devices hosts,
  weigh-flat f (λ d. Control d ∷ units_of parts d) (below (length parts.devices)),
  weigh-at-most (λ d. weigh f (Control d ∷ units_of parts d)) (λ d. most * length (used_ports parts d)) (below (length parts.devices)) at_device,
  weigh-times most (λ d. length (used_ports parts d)) (below (length parts.devices)),
  weigh-map f OfHost (below (length parts.hosts)),
  weigh-nothing (λ h. f (OfHost h)) (below (length parts.hosts)) u.host,
)
  where
    f : ActorId → ℕ
    f = taken parts t

    devices : List ActorId
    devices = flat_map (λ d. Control d ∷ units_of parts d) (below (length parts.devices))

    hosts : List ActorId
    hosts = map OfHost (below (length parts.hosts))

    at_device : (d : ℕ) → weigh f (Control d ∷ units_of parts d) ≤ most * length (used_ports parts d)
    at_device d = omega (
      arith,
      u.control d,
      weigh-flat f (λ p. ingress d p ∷ egress d p ∷ []) (used_ports parts d),
      weigh-each (λ p. weigh f (ingress d p ∷ egress d p ∷ [])) most (used_ports parts d) (λ p. omega (arith, u.port d p)),
    )

-- Each used port has two units.

-- the actors by their numbers
pub all_at : (xs : List ActorId) (d : ActorId) → map (λ i. get_or xs i d) (below (length xs)) ≡ xs
all_at xs d = sym (fill_by_all (λ i. get_or xs i d) xs (length xs) d refl (λ k l. refl))

two-each : (parts : Parts) → 2 * ports_in parts ≤ length (units (net_of parts))
two-each parts = omega (
  arith,
  tally-is (λ a. is_unit (actor_of net a)) (below (length net.actors)),
  weigh-map f (actor_of net) (below (length net.actors)),
  ap (weigh f) (all_at net.actors nobody),
  weigh-append f (flat_map (λ d. Control d ∷ units_of parts d) (below (length parts.devices))) (map OfHost (below (length parts.hosts))),
  weigh-flat f (λ d. Control d ∷ units_of parts d) (below (length parts.devices)),
  weigh-at-most (λ d. 2 * length (used_ports parts d)) (λ d. weigh f (Control d ∷ units_of parts d)) (below (length parts.devices)) at_device,
  weigh-times 2 (λ d. length (used_ports parts d)) (below (length parts.devices)),
)
  where
    net : Net
    net = net_of parts

    f : ActorId → ℕ
    f a = if is_unit a then 1 else 0

    at_device : (d : ℕ) → 2 * length (used_ports parts d) ≤ weigh f (Control d ∷ units_of parts d)
    at_device d = omega (
      arith,
      weigh-flat f (λ p. ingress d p ∷ egress d p ∷ []) (used_ports parts d),
      weigh-times 2 (λ p. 1) (used_ports parts d),
      weigh-ones-is (used_ports parts d),
    )

-- Where the sort isn't that of a link to the observer, a control plane or a host.

abbrev one : Bool → ℕ
one b = if b then 1 else 0

-- and at most so many come to a port from outside
record IsData (t : Sort) (outside : ℕ) : Type 0 where
  begin : same_sort Begin t ≡ false
  notice : same_sort Notice t ≡ false
  dump : same_sort Dump t ≡ false
  done : same_sort Done t ≡ false
  to_host : same_sort ToHost t ≡ false
  poll : same_sort Poll t ≡ false
  from_host : one (same_sort FromHost t) ≤ outside
  cable : one (same_sort Cable t) ≤ outside

none : (b : Bool) → b ≡ false → one b ≤ 0
none b h = rw h (omega arith)

no-observer : (parts : Parts) (t : Sort) (outside : ℕ) → IsData t outside → taken parts t Observer ≤ 0
no-observer parts t outside k = omega (
  arith,
  weigh-map {B = Incoming} (λ i. one (is_of t i)) (λ d. (Control d, Done)) (below (length parts.devices)),
  weigh-nothing (λ (d : ℕ). one (same_sort Done t)) (below (length parts.devices)) (λ d. none (same_sort Done t) k.done),
)

no-control : (parts : Parts) (t : Sort) (outside : ℕ) → IsData t outside → (d : ℕ) → taken parts t (Control d) ≤ 0
no-control parts t outside k d = omega (
  arith,
  none (same_sort Begin t) k.begin,
  weigh-flat {B = Incoming} (λ i. one (is_of t i)) (λ u. (u, Notice) ∷ (u, Dump) ∷ []) (units_of parts d),
  weigh-nothing (λ (u : ActorId). one (same_sort Notice t) + (one (same_sort Dump t) + 0)) (units_of parts d) (λ u. omega (arith, none (same_sort Notice t) k.notice, none (same_sort Dump t) k.dump)),
)

no-host : (parts : Parts) (t : Sort) (outside : ℕ) → IsData t outside → (h : ℕ) → taken parts t (OfHost h) ≤ 0
no-host parts t outside k h = by_port (slice_get (map (λ (part : HostPart). part.at) parts.hosts) h)
  where
    by_port : (o : Option PortRef) → tally (is_of t) (to_host o) ≤ 0
    by_port None = omega arith
    by_port (Some p) = omega (arith, none (same_sort ToHost t) k.to_host)

-- A port: at its ingress what comes from outside and a link of initiations, at its egress the crossbar links.

port-takes : (parts : Parts) (t : Sort) (outside d p : ℕ) → IsData t outside → IsWired (net_of parts)
    → taken parts t (ingress d p) + taken parts t (egress d p) ≤ outside + one (same_sort Init t) + one (same_sort Crossbar t) * 8
port-takes parts t outside d p k v = omega (
  arith,
  none (same_sort Poll t) k.poll,
  comes (host_at parts at) (other_end parts.cables at),
  weigh-append f (from_outside parts at) ((Control d, Init) ∷ (Control d, Poll) ∷ []),
  weigh-append f crossing ((Control d, Poll) ∷ []),
  weigh-map {B = Incoming} f (λ q. (ingress d q, Crossbar)) (used_ports parts d),
  weigh-each (λ (q : ℕ). one (same_sort Crossbar t)) (one (same_sort Crossbar t)) (used_ports parts d) (λ q. omega arith),
  mul-right (length (used_ports parts d)) 8 (one (same_sort Crossbar t)) (v.few_used d),
)
  where
    at : PortRef
    at = record { device = d; port = p }

    f : Incoming → ℕ
    f i = one (is_of t i)

    crossing : List Incoming
    crossing = map (λ q. (ingress d q, Crossbar)) (used_ports parts d)

    comes : (x : Option ℕ) (y : Option PortRef) → tally (is_of t) (from_host_or_cable x y) ≤ outside
    comes (Some h) y = omega (arith, k.from_host)
    comes None (Some q) = omega (arith, k.cable)
    comes None None = omega arith

few-of-sort : (parts : Parts) (t : Sort) (outside : ℕ) → IsWired (net_of parts) → IsData t outside
    → links_of_sort (net_of parts) t ≤ (outside + one (same_sort Init t) + one (same_sort Crossbar t) * 8) * ports_in parts
few-of-sort parts t outside v k = few-taken parts t (outside + one (same_sort Init t) + one (same_sort Crossbar t) * 8) v (record {
  observer = no-observer parts t outside k;
  control = no-control parts t outside k;
  host = no-host parts t outside k;
  port = λ d p. port-takes parts t outside d p k v;
})

pub few-inits : (parts : Parts) → IsWired (net_of parts) → 2 * links_of_sort (net_of parts) Init ≤ 1 * length (units (net_of parts))
few-inits parts v = omega (arith, two-each parts, few-of-sort parts Init 0 v (record { begin = refl; notice = refl; dump = refl; done = refl; to_host = refl; poll = refl; from_host = omega arith; cable = omega arith }))

pub few-crossings : (parts : Parts) → IsWired (net_of parts) → 2 * links_of_sort (net_of parts) Crossbar ≤ 8 * length (units (net_of parts))
few-crossings parts v = omega (arith, two-each parts, few-of-sort parts Crossbar 0 v (record { begin = refl; notice = refl; dump = refl; done = refl; to_host = refl; poll = refl; from_host = omega arith; cable = omega arith }))

pub few-cables : (parts : Parts) → IsWired (net_of parts) → 2 * links_of_sort (net_of parts) Cable ≤ 1 * length (units (net_of parts))
few-cables parts v = omega (arith, two-each parts, few-of-sort parts Cable 1 v (record { begin = refl; notice = refl; dump = refl; done = refl; to_host = refl; poll = refl; from_host = omega arith; cable = omega arith }))

-- The bound is small, where the limits of an input are kept.

mul-most : (a b x y : ℕ) → a ≤ x → b ≤ y → a * b ≤ x * y
mul-most a b x y h k = omega (arith, mul-le a x b h, mul-right b y x k)

-- the terms of the bound, apart

mul-five : (c u : ℕ) → c * (5 * u) ≡ 5 * (c * u)
mul-five zero u = omega arith
mul-five (suc c) u = omega (arith, mul-five c u)

mul-sum : (g c r u : ℕ) → g ≡ 2 * c + r → g * u ≡ 2 * (c * u) + r * u
mul-sum g c r zero h = omega arith
mul-sum g c r (suc u) h = omega (arith, h, mul-sum g c r u h)

record IsSmallNet (net : Net) : Type 0 where
  devices : length net.parts.devices ≤ 64
  units_in : length (units net) ≤ 1217
  inits : 2 * links_of_sort net Init ≤ 1 * length (units net)
  crossings : 2 * links_of_sort net Crossbar ≤ 8 * length (units net)
  cables : 2 * links_of_sort net Cable ≤ 1 * length (units net)

small-net : (parts : Parts) → IsWired (net_of parts) → IsSmallNet (net_of parts)
small-net parts t = record {
  devices = t.valid.devices;
  units_in = omega (arith, length-filter (λ a. is_unit (actor_of (net_of parts) a)) (below (length (actors_of parts))), count_by-le-length (λ a. is_unit (actor_of (net_of parts) a)) (below (length (actors_of parts))), length-range_with_len 0 (length (actors_of parts)), few);
  inits = few-inits parts t;
  crossings = few-crossings parts t;
  cables = few-cables parts t;
}
  where
    few : length (actors_of parts) ≤ 1217
    few = t.few_actors

pub small-bound : (s : Setup) (sweeps : ℕ) → IsNet s.net → s.count ≤ 100000 → s.count * length (units s.net) ≤ 1024000 → s.retries ≤ 100 → frame_count s ≤ 200000 → sweeps ≤ 2 ^ 20
    → bound_of s sweeps < 2 ^ 27
small-bound s sweeps n c f t p k = of_numbers (length s.net.parts.devices) (length (units s.net)) (links_of_sort s.net Init) (links_of_sort s.net Crossbar) (links_of_sort s.net Cable) s.count s.retries (frame_count s) sweeps
    m.devices m.units_in (omega (arith, m.inits, m.crossings, m.cables)) c f t p k
  where
    m : IsSmallNet s.net
    m = subst (λ g. IsWired g → IsSmallNet g) (sym n.made) (small-net s.net.parts) (wiring s.net n).wired

    of_numbers : (D U I X Y C T P S : ℕ) → D ≤ 64 → U ≤ 1217 → I + X + Y ≤ 5 * U → C ≤ 100000 → C * U ≤ 1024000 → T ≤ 100 → P ≤ 200000 → S ≤ 1048576 → bound D U I X Y C T P S < 134217728
    of_numbers D U I X Y C T P S d u z c f t p k = omega (
      arith,
      k,
      f,
      add-mul C T (1 + D + (I + X + Y)),
      mul-add C (1 + D) (I + X + Y),
      mul-right (I + X + Y) (5 * U) C z,
      mul-five C U,
      mul-most C (1 + D) 100000 65 c (omega (arith, d)),
      mul-most T (1 + D + (I + X + Y)) 100 6150 t (omega (arith, d, z, u)),
      mul-most P (2 * D + 2) 200000 130 p (omega (arith, d)),
      mul-sum (2 * C + T + 2) C (T + 2) U (omega arith),
      mul-most (T + 2) U 102 1217 (omega (arith, t)) u,
      mul-sum (2 * C + T + 2) C (T + 2) D (omega arith),
      mul-most (T + 2) D 102 64 (omega (arith, t)) d,
      mul-most C D 100000 64 c d,
    )

-- The bound of an input.

weigh-sum : {A : Type 0} (f : A → ℕ) (xs : List A) → weigh f xs ≡ sum (map f xs)
weigh-sum f [] = refl
weigh-sum f (x ∷ xs) = ap (λ n. f x + n) (weigh-sum f xs) ∙ sym (sum_by-cons (λ n. n) (f x) (map f xs))

-- a part of a list
tally-few : {A : Type 0} (t : A → Bool) (xs : List A) → tally t xs ≤ length xs
tally-few t xs = omega (arith, tally-is t xs, length-filter t xs, count_by-le-length t xs)

pub small-input : (i : Input) → IsNet i.net → i.snapshot.count ≤ 100000 → i.snapshot.count * length (units i.net) ≤ 1024000 → i.snapshot.retries ≤ 100
    → sum (map (λ f. f.count) i.flows) + length i.raws ≤ 200000 → length i.script ≤ 2 ^ 20 → input_bound i < 2 ^ 27
small-input i n c f t p k = small-bound (setup_of i) (tally (is_sweep i.net) i.script) n c f t (omega (arith, p, weigh-sum (λ (f : Flow). f.count) i.flows)) (omega (arith, k, tally-few (is_sweep i.net) i.script))
