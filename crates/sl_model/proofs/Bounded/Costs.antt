-- How many channels, frames, links and units a net of parts without a fault has, and what a number issued and a round of sweeps cost there.
use Rattle.std.proofs.Common.{◌+◌, ◌<◌, ◌==◌, List, ap, eq-eqb, get_or, length, length-append, refl, subst, suc, sym, ℕ, ◌∙◌, ◌∷◌, ◌≡◌, ◌≤◌, arith, [], ◌*◌}
use Rattle.std.specs.Prelude.{Bool, cond, false, filter, map, true, if◌then◌else◌}
use Rattle.sl_layout.specs.Net.{Net, actor_of, actors_of, choices_of, data_channels, hosts, is_host, link_numbers, link_of, links_into, net_of, place_of, same_sort, action_choice, ingress, links_from, links_out, units}
use Rattle.sl_parts.specs.Parts.{Parts, below, ports_of}
use Rattle.sl_net.specs.Wired.{IsNet, IsWired, HasEnds, home, is_inner}
use Rattle.sl_layout.specs.declared.actor.ActorId.{ActorId}
use Rattle.sl_layout.specs.declared.actor.ActorId.TheVariants.{Control, Observer, Host as OfHost, Unit as OfUnit}
use Rattle.sl_layout.specs.declared.actor.Sort.{Sort}
use Rattle.sl_layout.specs.declared.actor.Sort.TheVariants.{Cable, Crossbar, Init, Begin, Poll}
use Rattle.sl_net.specs.declared.input.Flow.{Flow}
use Rattle.sl_model.specs.Bound.{frame_count, links_of_sort, is_control}
use Rattle.sl_flow.specs.Flow.{flow_packets, packet_in, packets_of}
use Rattle.sl_model.specs.Frame.{plain_frame}
use Rattle.sl_model.specs.Setup.{Setup, frames_of}
use Rattle.sl_model.specs.Words.{weigh}
use Rattle.sl_parts.specs.Lists.{Member}
use Rattle.sl_parts.proofs.Lists.{filter-map, numbers-suc, each-passes, distinct-filter, distinct-from, each-at, each-below, kept-member, distinct-map, member-of-map, Distinct}
use Rattle.std.proofs.lemmas.List.{length-map}
use Rattle.std.proofs.lemmas.List.FromFn.{length-range_with_len}
use Rattle.sl_model.proofs.Bounded.Ways.{all_channels, all_frames, channels_of, frames_at, observer_of, observers, same-from, same-to}
use Rattle.sl_model.proofs.Bounded.Prices.{once}
use Rattle.sl_model.proofs.Lists.Weighed.{tally-is, weigh-at-most, weigh-filtered, weigh-flat, weigh-keyed, weigh-once, weigh-ones-is, weigh-plus, weigh-same-each, weigh-swap, distinct-within, few-keys}
use Rattle.sl_layout.specs.Roster.{IsActor, side_number}
use Rattle.sl_layout.specs.Serving.{served, serving}
use Rattle.sl_layout.specs.declared.actor.Side.{Side}
use Rattle.sl_layout.specs.declared.actor.Side.TheVariants.{Egress, Ingress}
use Rattle.sl_layout.specs.declared.actor.UnitId.{UnitId}
use Rattle.sl_model.specs.Schedule.{sweep_of}
use Rattle.sl_model.specs.Potential.{allowance, allowed, begin_price, goes_on, init_price, is_cable, own_at, own_side, probe_price, round_price}
use Rattle.sl_net.specs.Ways.{IsOut, HasWays}
use Rattle.sl_model.proofs.Finishing.Finished.{sweep_gain}
use Rattle.sl_model.proofs.Worlds.Stamps.{out-of, distinct-out}

-- Actors.

-- two numbers of one actor are one
pub one-number : (parts : Parts) → IsWired (net_of parts) → (a b : ℕ) → a < length (actors_of parts) → b < length (actors_of parts) → actor_of (net_of parts) a ≡ actor_of (net_of parts) b → a ≡ b
one-number parts w a b h k q = sym (w.place a h) ∙ ap (λ x. place_of x (actors_of parts)) q ∙ w.place b k

pub in-below : (a n : ℕ) → Member a (below n) → a < n
in-below a n m = each-at (λ x. x < n) a (below n) (each-below (λ x. x < n) n (λ x h. h)) m

pub in-filter : {A : Type 0} (t : A → Bool) (x : A) (xs : List A) → Member x (filter t xs) → Member x xs × (t x ≡ true)
in-filter t x xs m = (kept-member t x xs m, each-at (λ x. t x ≡ true) x (filter t xs) (each-passes t xs) m)

-- one observer
pub observers-few : (net : Net) → IsWired net → observers net ≤ 1
observers-few net w = omega (arith, weigh-at-most (λ a. observer_of (actor_of net a)) (λ a. cond (0 == a) 1 0) (below (length net.actors)) (λ a. of_actor a (actor_of net a) refl), weigh-once (λ a. 1) 0 0 (length net.actors))
  where
    of_actor : (a : ℕ) (x : ActorId) → actor_of net a ≡ x → observer_of x ≤ cond (0 == a) 1 0
    of_actor a Observer q = let e : (0 == a) ≡ true = eq-eqb 0 a (sym (w.one_observer a q)) in subst (λ b. 1 ≤ cond b 1 0) (sym e) (omega arith)
    of_actor a (Control d) q = omega arith
    of_actor a (OfUnit i) q = omega arith
    of_actor a (OfHost h) q = omega arith

-- Channels.

filter-numbers : (t : ℕ → Bool) (xs : List ℕ) → length (filter (λ c. t (get_or xs c 0)) (below (length xs))) ≡ length (filter t xs)
filter-numbers t [] = refl
filter-numbers t (x ∷ xs) = ap (λ ns. length (cond (t x) (0 ∷ ns) ns)) (ap (filter (λ c. t (get_or (x ∷ xs) c 0))) (numbers-suc 0 (length xs)) ∙ shifted (below (length xs))) ∙ by_bool (t x) (length-map (filter (λ c. t (get_or xs c 0)) (below (length xs))) suc ∙ filter-numbers t xs)
  where
    shifted : (ns : List ℕ) → filter (λ c. t (get_or (x ∷ xs) c 0)) (map suc ns) ≡ map suc (filter (λ c. t (get_or xs c 0)) ns)
    shifted ns = filter-map (λ c. t (get_or (x ∷ xs) c 0)) (λ c. suc c) ns

    by_bool : (b : Bool) → length (map suc (filter (λ c. t (get_or xs c 0)) (below (length xs)))) ≡ length (filter t xs)
        → length (cond b (0 ∷ map suc (filter (λ c. t (get_or xs c 0)) (below (length xs)))) (map suc (filter (λ c. t (get_or xs c 0)) (below (length xs))))) ≡ length (cond b (x ∷ filter t xs) (filter t xs))
    by_bool true h = ap suc h
    by_bool false h = h

-- the links of a sort
abbrev pub of_sort : Net → Sort → ℕ → Bool
of_sort net t l = same_sort (link_of net l).sort t

abbrev pub sorted : Net → Sort → List ℕ
sorted net t = filter (of_sort net t) (link_numbers net)

pub sorted-many : (net : Net) (t : Sort) → length (sorted net t) ≡ links_of_sort net t
sorted-many net t = sym (tally-is (of_sort net t) (link_numbers net))

-- an actor's choices of a sort are the links of the sort that lead to it
choices-into : (net : Net) (a : ℕ) (t : Sort) → length (choices_of net a t) ≡ weigh (λ l. if (link_of net l).to == a then (if of_sort net t l then 1 else 0) else 0) (link_numbers net)
choices-into net a t = filter-numbers (of_sort net t) (links_into net a) ∙ sym (tally-is (of_sort net t) (links_into net a))
    ∙ weigh-filtered (λ l. if of_sort net t l then 1 else 0) (λ l. (link_of net l).to == a) (link_numbers net)

choices-few : (net : Net) (t : Sort) → weigh (λ a. length (choices_of net a t)) (below (length net.actors)) ≤ links_of_sort net t
choices-few net t = omega (
  arith,
  weigh-same-each (λ a. length (choices_of net a t)) (λ a. weigh (λ l. if (link_of net l).to == a then (if of_sort net t l then 1 else 0) else 0) (link_numbers net)) (below (length net.actors)) (λ a. choices-into net a t),
  weigh-keyed (λ l. (link_of net l).to) (λ l. if of_sort net t l then 1 else 0) (length net.actors) (link_numbers net),
)

pub channels-few : (net : Net) → all_channels net ≤ links_of_sort net Init + links_of_sort net Crossbar + links_of_sort net Cable
channels-few net = omega (
  arith,
  weigh-at-most (λ a. channels_of net a (actor_of net a)) (λ a. length (choices_of net a Cable) + (length (choices_of net a Crossbar) + length (choices_of net a Init))) (below (length net.actors)) (λ a. of_actor a (actor_of net a)),
  weigh-plus (λ a. length (choices_of net a Cable)) (λ a. length (choices_of net a Crossbar) + length (choices_of net a Init)) (below (length net.actors)),
  weigh-plus (λ a. length (choices_of net a Crossbar)) (λ a. length (choices_of net a Init)) (below (length net.actors)),
  choices-few net Cable,
  choices-few net Crossbar,
  choices-few net Init,
)
  where
    of_actor : (a : ℕ) (x : ActorId) → channels_of net a x ≤ length (choices_of net a Cable) + (length (choices_of net a Crossbar) + length (choices_of net a Init))
    of_actor a Observer = omega arith
    of_actor a (Control d) = omega arith
    of_actor a (OfUnit i) = omega (arith, length-append (data_channels net a) (choices_of net a Init), length-append (choices_of net a Cable) (choices_of net a Crossbar))
    of_actor a (OfHost h) = omega arith

-- Frames of hosts.

abbrev host_of : ActorId → ℕ
host_of (OfHost h) = h
host_of _ = 0

flow-many : (f : Flow) → length (flow_packets f) ≡ f.count
flow-many f = length-map (below f.count) (packet_in f) ∙ length-range_with_len 0 f.count

frames-many : (s : Setup) (h : ℕ) → length (frames_of s h) ≡ weigh (λ f. if f.from == h then f.count else 0) s.flows + weigh (λ r. if r.from == h then 1 else 0) s.raws
frames-many s h = omega (
  arith,
  length-append (map plain_frame (packets_of s.flows h)) (map (λ r. r.bytes) (filter (λ r. r.from == h) s.raws)),
  length-map (packets_of s.flows h) plain_frame,
  length-map (filter (λ r. r.from == h) s.raws) (λ r. r.bytes),
  tally-is (λ r. r.from == h) s.raws,
  packets,
)
  where
    packets : length (packets_of s.flows h) ≡ weigh (λ f. if f.from == h then f.count else 0) s.flows
    packets = sym (weigh-ones-is (packets_of s.flows h)) ∙ weigh-flat (λ p. 1) flow_packets (filter (λ f. f.from == h) s.flows)
        ∙ weigh-same-each (λ f. weigh (λ p. 1) (flow_packets f)) (λ f. f.count) (filter (λ f. f.from == h) s.flows) (λ f. weigh-ones-is (flow_packets f) ∙ flow-many f)
        ∙ weigh-filtered (λ f. f.count) (λ f. f.from == h) s.flows

-- what counts for one host of each element counts once
hosts-once : {A : Type 0} (net : Net) (from : A → ℕ) (f : A → ℕ) (xs : List A) → ((a b : ℕ) → Member a (hosts net) → Member b (hosts net) → host_of (actor_of net a) ≡ host_of (actor_of net b) → a ≡ b)
    → weigh (λ a. weigh (λ x. if from x == host_of (actor_of net a) then f x else 0) xs) (hosts net) ≤ weigh f xs
hosts-once net from f xs one = omega (
  arith,
  weigh-swap (λ a x. if from x == host_of (actor_of net a) then f x else 0) (hosts net) xs,
  weigh-at-most (λ x. weigh (λ a. if from x == host_of (actor_of net a) then f x else 0) (hosts net)) f xs
      (λ x. once (λ a. host_of (actor_of net a)) (f x) (from x) (hosts net) (distinct-filter (λ a. is_host (actor_of net a)) (below (length net.actors)) (distinct-from 0 (length net.actors))) (λ a b p q e k. one a b p q (sym e ∙ k))),
)

host-is : (x : ActorId) → is_host x ≡ true → x ≡ OfHost (host_of x)
host-is (OfHost h) q = refl
host-is Observer q = absurd cc
host-is (Control d) q = absurd cc
host-is (OfUnit i) q = absurd cc

one-host-number : (parts : Parts) → IsWired (net_of parts) → (a b : ℕ) → Member a (hosts (net_of parts)) → Member b (hosts (net_of parts)) → host_of (actor_of (net_of parts) a) ≡ host_of (actor_of (net_of parts) b) → a ≡ b
one-host-number parts w a b p q e = let x = in-filter (λ a. is_host (actor_of (net_of parts) a)) a (below (length (actors_of parts))) p in let y = in-filter (λ a. is_host (actor_of (net_of parts) a)) b (below (length (actors_of parts))) q in
    one-number parts w a b (in-below a (length (actors_of parts)) x.0) (in-below b (length (actors_of parts)) y.0)
    (host-is (actor_of (net_of parts) a) x.1 ∙ ap OfHost e ∙ sym (host-is (actor_of (net_of parts) b) y.1))

pub frames-few : (s : Setup) → IsNet s.net → IsWired s.net → all_frames s ≤ frame_count s
frames-few s n w = omega (
  arith,
  at_hosts (below (length s.net.actors)),
  weigh-same-each (λ a. length (frames_of s (host_of (actor_of s.net a)))) (λ a. weigh (λ f. if f.from == host_of (actor_of s.net a) then f.count else 0) s.flows + weigh (λ r. if r.from == host_of (actor_of s.net a) then 1 else 0) s.raws) (hosts s.net)
      (λ a. frames-many s (host_of (actor_of s.net a))),
  weigh-plus (λ a. weigh (λ f. if f.from == host_of (actor_of s.net a) then f.count else 0) s.flows) (λ a. weigh (λ r. if r.from == host_of (actor_of s.net a) then 1 else 0) s.raws) (hosts s.net),
  hosts-once s.net (λ f. f.from) (λ f. f.count) s.flows one,
  hosts-once s.net (λ r. r.from) (λ r. 1) s.raws one,
  weigh-ones-is s.raws,
)
  where
    one : (a b : ℕ) → Member a (hosts s.net) → Member b (hosts s.net) → host_of (actor_of s.net a) ≡ host_of (actor_of s.net b) → a ≡ b
    one = subst (λ g. IsWired g → (a b : ℕ) → Member a (hosts g) → Member b (hosts g) → host_of (actor_of g a) ≡ host_of (actor_of g b) → a ≡ b) (sym n.made) (one-host-number s.net.parts) w

    at_hosts : (ks : List ℕ) → weigh (λ a. frames_at s (actor_of s.net a)) ks ≤ weigh (λ a. length (frames_of s (host_of (actor_of s.net a)))) (filter (λ a. is_host (actor_of s.net a)) ks)
    at_hosts [] = omega arith
    at_hosts (a ∷ ks) = by_actor (actor_of s.net a) refl (at_hosts ks)
      where
        by_actor : (x : ActorId) → actor_of s.net a ≡ x → weigh (λ a. frames_at s (actor_of s.net a)) ks ≤ weigh (λ a. length (frames_of s (host_of (actor_of s.net a)))) (filter (λ a. is_host (actor_of s.net a)) ks)
            → frames_at s x + weigh (λ a. frames_at s (actor_of s.net a)) ks ≤ weigh (λ a. length (frames_of s (host_of (actor_of s.net a)))) (cond (is_host x) (a ∷ filter (λ a. is_host (actor_of s.net a)) ks) (filter (λ a. is_host (actor_of s.net a)) ks))
        by_actor Observer q h = omega (arith, h)
        by_actor (Control d) q h = omega (arith, h)
        by_actor (OfUnit i) q h = omega (arith, h)
        by_actor (OfHost x) q h = omega (arith, h, ap (λ y. length (frames_of s (host_of y))) q)

-- What a number issued and a round of sweeps cost.

-- Links of a sort by their senders: each counts once.

out-weigh : (net : Net) (a : ℕ) (t : Sort) (f : ℕ → ℕ) → weigh f (links_out net a t) ≡ weigh (λ l. if (link_of net l).from == a then (if of_sort net t l then f l else 0) else 0) (link_numbers net)
out-weigh net a t f = weigh-filtered f (of_sort net t) (links_from net a) ∙ weigh-filtered (λ l. if of_sort net t l then f l else 0) (λ l. (link_of net l).from == a) (link_numbers net)

sorted-weigh : (net : Net) (t : Sort) (f : ℕ → ℕ) → weigh f (sorted net t) ≡ weigh (λ l. if of_sort net t l then f l else 0) (link_numbers net)
sorted-weigh net t f = weigh-filtered f (of_sort net t) (link_numbers net)

-- of links that lead to actors of their own, the links of a sort that go on
pub goes-on-once : (net : Net) (t : Sort) (f : ℕ → ℕ) (ls : List ℕ) → Distinct ls → ((x y : ℕ) → Member x ls → Member y ls → (link_of net x).to ≡ (link_of net y).to → x ≡ y)
    → weigh (λ l. weigh f (links_out net (link_of net l).to t)) ls ≤ weigh f (sorted net t)
goes-on-once net t f ls d one = omega (
  arith,
  weigh-same-each (λ l. weigh f (links_out net (link_of net l).to t)) (λ l. weigh (λ m. if (link_of net m).from == (link_of net l).to then (if of_sort net t m then f m else 0) else 0) (link_numbers net)) ls (λ l. out-weigh net (link_of net l).to t f),
  weigh-swap (λ l m. if (link_of net m).from == (link_of net l).to then (if of_sort net t m then f m else 0) else 0) ls (link_numbers net),
  weigh-at-most (λ m. weigh (λ l. if (link_of net m).from == (link_of net l).to then (if of_sort net t m then f m else 0) else 0) ls) (λ m. if of_sort net t m then f m else 0) (link_numbers net)
      (λ m. once (λ l. (link_of net l).to) (if of_sort net t m then f m else 0) (link_of net m).from ls d (λ x y p q e k. one x y p q (sym e ∙ k))),
  sorted-weigh net t f,
)

pub sorted-distinct : (net : Net) (t : Sort) → Distinct (sorted net t)
sorted-distinct net t = distinct-filter (of_sort net t) (link_numbers net) (distinct-from 0 (length net.links))

pub record IsSorted (net : Net) (t : Sort) (l : ℕ) : Type 0 where
  pub is_link : l < length net.links
  pub sort : (link_of net l).sort ≡ t

pub in-sorted : (net : Net) → HasWays net → (t : Sort) (l : ℕ) → Member l (sorted net t) → IsSorted net t l
in-sorted net ways t l m = let x = in-filter (of_sort net t) l (link_numbers net) m in record { is_link = in-below l (length net.links) x.0; sort = ways.is_sort l t x.1 }

-- What follows for parts.

own-control : (x : ActorId) (d e : ℕ) → x ≡ Control d → home x ≡ e → x ≡ Control e
own-control x d e q h = q ∙ ap Control (sym (ap home q) ∙ h)

-- Begins lead to control planes of their own
pub begin-device : (parts : Parts) (l : ℕ) → IsWired (net_of parts) → IsOut (net_of parts) 0 Begin l → (k : HasEnds (net_of parts) l) × (k.receiver ≡ Control (home k.receiver))
begin-device parts l v o = let k = v.ends l o.is_link in let d = v.begin_to l o.is_link o.sort in (k, own-control k.receiver d.0 (home k.receiver) (sym k.to_is ∙ d.1) refl)

begins-few : (parts : Parts) → IsWired (net_of parts) → length (links_out (net_of parts) 0 Begin) ≤ length parts.devices
begins-few parts v = few-keys (λ l. home (actor_of (net_of parts) (link_of (net_of parts) l).to)) (length parts.devices) (links_out (net_of parts) 0 Begin) (distinct-out (net_of parts) 0 Begin)
    (λ l k p q e. one l k (out-of (net_of parts) 0 Begin l p) (out-of (net_of parts) 0 Begin k q) e)
    (λ l p. few l (out-of (net_of parts) 0 Begin l p))
  where
    at : (l : ℕ) → (o : IsOut (net_of parts) 0 Begin l) → home (actor_of (net_of parts) (link_of (net_of parts) l).to) ≡ home (begin-device parts l v o).0.receiver
    at l o = ap home ((begin-device parts l v o).0.to_is)

    one : (l k : ℕ) → IsOut (net_of parts) 0 Begin l → IsOut (net_of parts) 0 Begin k → home (actor_of (net_of parts) (link_of (net_of parts) l).to) ≡ home (actor_of (net_of parts) (link_of (net_of parts) k).to) → l ≡ k
    one l k o p e = let x = begin-device parts l v o in let y = begin-device parts k v p in
        let r : x.0.receiver ≡ y.0.receiver = x.1 ∙ ap Control (sym (at l o) ∙ e ∙ at k p) ∙ sym y.1 in
        v.one_link l k o.is_link p.is_link (o.from ∙ sym p.from) (same-to parts l k v x.0 y.0 r) (o.sort ∙ sym p.sort)

    few : (l : ℕ) → IsOut (net_of parts) 0 Begin l → home (actor_of (net_of parts) (link_of (net_of parts) l).to) < length parts.devices
    few l o = let x = begin-device parts l v o in let h : home x.0.receiver < length parts.devices = subst (IsActor parts) x.1 x.0.is_receiver in omega (arith, at l o, h)

-- links with the same receiver whose senders are told by it are one
one-by-receiver : (parts : Parts) (t : Sort) (from : ActorId → ActorId) → IsWired (net_of parts) → (l k : ℕ) → IsSorted (net_of parts) t l → IsSorted (net_of parts) t k
    → ((x : HasEnds (net_of parts) l) → x.sender ≡ from x.receiver) → ((y : HasEnds (net_of parts) k) → y.sender ≡ from y.receiver)
    → (link_of (net_of parts) l).to ≡ (link_of (net_of parts) k).to → l ≡ k
one-by-receiver parts t from v l k o p f g e = let x = v.ends l o.is_link in let y = v.ends k p.is_link in
    let r : x.receiver ≡ y.receiver = sym (x.to_is) ∙ ap (actor_of (net_of parts)) e ∙ y.to_is in
    v.one_link l k o.is_link p.is_link (same-from parts l k v x y (f x ∙ ap from r ∙ sym (g y))) e (o.sort ∙ sym p.sort)

-- of the links of a sort that lead from its control plane, an actor has one
one-control : (parts : Parts) (t : Sort) → is_inner t ≡ true → IsWired (net_of parts)
    → ((l : ℕ) → l < length (net_of parts).links → (link_of (net_of parts) l).sort ≡ t → (d : ℕ) × (actor_of (net_of parts) (link_of (net_of parts) l).from ≡ Control d))
    → (l k : ℕ) → Member l (sorted (net_of parts) t) → Member k (sorted (net_of parts) t) → (link_of (net_of parts) l).to ≡ (link_of (net_of parts) k).to → l ≡ k
one-control parts t inner v from_control l k p q e = let o = in-sorted (net_of parts) v.ways t l p in let r = in-sorted (net_of parts) v.ways t k q in
    one-by-receiver parts t (λ y. Control (home y)) v l k o r (λ x. from l o x) (λ y. from k r y) e
  where
    from : (l : ℕ) → IsSorted (net_of parts) t l → (x : HasEnds (net_of parts) l) → x.sender ≡ Control (home x.receiver)
    from l o x = let d = from_control l o.is_link o.sort in own-control x.sender d.0 (home x.receiver) (sym x.from_is ∙ d.1) (x.inner (ap is_inner o.sort ∙ inner))

-- an ingress unit has one link of initiations
pub one-init : (parts : Parts) → IsWired (net_of parts) → (l k : ℕ) → Member l (sorted (net_of parts) Init) → Member k (sorted (net_of parts) Init) → (link_of (net_of parts) l).to ≡ (link_of (net_of parts) k).to → l ≡ k
one-init parts v = one-control parts Init refl v v.init_from

-- a unit has one link of polls
pub one-poll : (parts : Parts) → IsWired (net_of parts) → (l k : ℕ) → Member l (sorted (net_of parts) Poll) → Member k (sorted (net_of parts) Poll) → (link_of (net_of parts) l).to ≡ (link_of (net_of parts) k).to → l ≡ k
one-poll parts v = one-control parts Poll refl v v.poll_from

-- an egress unit has one crossbar link from the ingress unit of its port

abbrev own_ingress : ActorId → ActorId
own_ingress (OfUnit i) = ingress i.device i.port
own_ingress a = a

own-sender : (net : Net) → HasWays net → (l : ℕ) (a : ActorId) → own_at net l a ≡ true → actor_of net (link_of net l).from ≡ own_ingress a
own-sender net ways l Observer h = absurd cc
own-sender net ways l (Control d) h = absurd cc
own-sender net ways l (OfUnit i) h = of_side i.side h
  where
    of_side : (s : Side) → own_side net l i s ≡ true → actor_of net (link_of net l).from ≡ ingress i.device i.port
    of_side Ingress h = absurd cc
    of_side Egress h = ways.is_actor (link_of net l).from (ingress i.device i.port) h
own-sender net ways l (OfHost h) q = absurd cc

one-own : (parts : Parts) → IsWired (net_of parts) → (l k : ℕ) → Member l (filter (goes_on (net_of parts)) (sorted (net_of parts) Crossbar)) → Member k (filter (goes_on (net_of parts)) (sorted (net_of parts) Crossbar))
    → (link_of (net_of parts) l).to ≡ (link_of (net_of parts) k).to → l ≡ k
one-own parts v l k p q e = let a = in-filter (goes_on (net_of parts)) l (sorted (net_of parts) Crossbar) p in let b = in-filter (goes_on (net_of parts)) k (sorted (net_of parts) Crossbar) q in
    one-by-receiver parts Crossbar own_ingress v l k (in-sorted (net_of parts) v.ways Crossbar l a.0) (in-sorted (net_of parts) v.ways Crossbar k b.0) (λ x. from l a.1 x) (λ y. from k b.1 y) e
  where
    from : (l : ℕ) → goes_on (net_of parts) l ≡ true → (x : HasEnds (net_of parts) l) → x.sender ≡ own_ingress x.receiver
    from l g x = sym (x.from_is) ∙ own-sender (net_of parts) v.ways l (actor_of (net_of parts) (link_of (net_of parts) l).to) g ∙ ap own_ingress (x.to_is)

-- Probes, initiations and Begins.

-- a crossbar link's probe, and on a cable once more where it comes from its own port
probe-cost : (net : Net) (l : ℕ) → probe_price net l ≤ 1 + (if goes_on net l then weigh (λ m. 1) (links_out net (link_of net l).to Cable) else 0)
probe-cost net l = by_bool (is_cable (link_of net l).sort) (goes_on net l)
  where
    by_bool : (x y : Bool) → (if x then 1 else suc (if y then length (links_out net (link_of net l).to Cable) else 0)) ≤ 1 + (if y then weigh (λ m. 1) (links_out net (link_of net l).to Cable) else 0)
    by_bool true y = omega arith
    by_bool false true = omega (arith, weigh-ones-is (links_out net (link_of net l).to Cable))
    by_bool false false = omega arith

probes-cost : (parts : Parts) → IsWired (net_of parts) → weigh (probe_price (net_of parts)) (sorted (net_of parts) Crossbar) ≤ links_of_sort (net_of parts) Crossbar + links_of_sort (net_of parts) Cable
probes-cost parts v = let net = net_of parts in omega (
  arith,
  weigh-at-most (probe_price net) (λ l. 1 + (if goes_on net l then weigh (λ m. 1) (links_out net (link_of net l).to Cable) else 0)) (sorted net Crossbar) (probe-cost net),
  weigh-plus (λ l. 1) (λ l. if goes_on net l then weigh (λ m. 1) (links_out net (link_of net l).to Cable) else 0) (sorted net Crossbar),
  weigh-ones-is (sorted net Crossbar),
  sorted-many net Crossbar,
  weigh-filtered (λ l. weigh (λ m. 1) (links_out net (link_of net l).to Cable)) (goes_on net) (sorted net Crossbar),
  goes-on-once net Cable (λ m. 1) (filter (goes_on net) (sorted net Crossbar)) (distinct-filter (goes_on net) (sorted net Crossbar) (sorted-distinct net Crossbar)) (one-own parts v),
  weigh-ones-is (sorted net Cable),
  sorted-many net Cable,
)

inits-cost : (parts : Parts) → IsWired (net_of parts) → weigh (init_price (net_of parts)) (sorted (net_of parts) Init) ≤ links_of_sort (net_of parts) Init + (links_of_sort (net_of parts) Crossbar + links_of_sort (net_of parts) Cable)
inits-cost parts v = let net = net_of parts in omega (
  arith,
  weigh-at-most (init_price net) (λ l. 1 + weigh (probe_price net) (links_out net (link_of net l).to Crossbar)) (sorted net Init) (λ l. omega arith),
  weigh-plus (λ l. 1) (λ l. weigh (probe_price net) (links_out net (link_of net l).to Crossbar)) (sorted net Init),
  weigh-ones-is (sorted net Init),
  sorted-many net Init,
  goes-on-once net Crossbar (probe_price net) (sorted net Init) (sorted-distinct net Init) (one-init parts v),
  probes-cost parts v,
)

round-cost : (parts : Parts) → IsWired (net_of parts) → round_price (net_of parts) ≤ 1 + length parts.devices + (links_of_sort (net_of parts) Init + (links_of_sort (net_of parts) Crossbar + links_of_sort (net_of parts) Cable))
round-cost parts v = let net = net_of parts in let bs = links_out net 0 Begin in omega (
  arith,
  weigh-at-most (begin_price net) (λ l. 1 + weigh (init_price net) (links_out net (link_of net l).to Init)) bs (λ l. omega arith),
  weigh-plus (λ l. 1) (λ l. weigh (init_price net) (links_out net (link_of net l).to Init)) bs,
  weigh-ones-is bs,
  begins-few parts v,
  goes-on-once net Init (init_price net) bs (distinct-out net 0 Begin) one,
  inits-cost parts v,
)
  where
    one : (l k : ℕ) → Member l (links_out (net_of parts) 0 Begin) → Member k (links_out (net_of parts) 0 Begin) → (link_of (net_of parts) l).to ≡ (link_of (net_of parts) k).to → l ≡ k
    one l k p q e = let o = out-of (net_of parts) 0 Begin l p in let r = out-of (net_of parts) 0 Begin k q in v.one_link l k o.is_link r.is_link (o.from ∙ sym r.from) e (o.sort ∙ sym r.sort)

-- Sweeps.

control-is : (x : ActorId) → is_control x ≡ true → x ≡ Control (home x)
control-is (Control d) q = refl
control-is Observer q = absurd cc
control-is (OfUnit i) q = absurd cc
control-is (OfHost h) q = absurd cc

controls-few : (parts : Parts) → IsWired (net_of parts) → length (filter (λ a. is_control (actor_of (net_of parts) a)) (below (length (actors_of parts)))) ≤ length parts.devices
controls-few parts t = few-keys (λ a. home (actor_of (net_of parts) a)) (length parts.devices) (filter (λ a. is_control (actor_of (net_of parts) a)) (below (length (actors_of parts))))
    (distinct-filter (λ a. is_control (actor_of (net_of parts) a)) (below (length (actors_of parts))) (distinct-from 0 (length (actors_of parts))))
    (λ a b p q e. (let x = split a p in let y = split b q in one-number parts t a b x.0 y.0 (x.1 ∙ ap Control e ∙ sym y.1)))
    (λ a p. (let x = split a p in let h : home (actor_of (net_of parts) a) < length parts.devices = subst (IsActor parts) x.1 (t.actor a x.0) in h))
  where
    split : (a : ℕ) → Member a (filter (λ a. is_control (actor_of (net_of parts) a)) (below (length (actors_of parts)))) → (a < length (actors_of parts)) × (actor_of (net_of parts) a ≡ Control (home (actor_of (net_of parts) a)))
    split a p = let x = in-filter (λ a. is_control (actor_of (net_of parts) a)) a (below (length (actors_of parts))) p in (in-below a (length (actors_of parts)) x.0, control-is (actor_of (net_of parts) a) x.1)

polls-few : (parts : Parts) → IsWired (net_of parts) → length (sorted (net_of parts) Poll) ≤ length (units (net_of parts))
polls-few parts t = omega (
  arith,
  length-map (sorted (net_of parts) Poll) (λ l. (link_of (net_of parts) l).to),
  distinct-within (map (λ l. (link_of (net_of parts) l).to) (sorted (net_of parts) Poll)) (units (net_of parts))
      (distinct-map (λ l. (link_of (net_of parts) l).to) (sorted (net_of parts) Poll) (one-poll parts t) (sorted-distinct (net_of parts) Poll)) units_only,
)
  where
    units_only : (u : ℕ) → Member u (map (λ l. (link_of (net_of parts) l).to) (sorted (net_of parts) Poll)) → Member u (units (net_of parts))
    units_only u m = let r = member-of-map (λ l. (link_of (net_of parts) l).to) u (sorted (net_of parts) Poll) m in let o = in-sorted (net_of parts) t.ways Poll r.0 r.1 in
        let y = t.poll_to r.0 o.is_link o.sort in subst (λ u. Member u (units (net_of parts))) (sym r.2) (t.ways.unit (link_of (net_of parts) r.0).to y.0 y.1)

-- what the sweep of an actor may add
sweep-cost : (net : Net) (a : ℕ) (x : ActorId) → actor_of net a ≡ x → weigh (allowed net) (sweep_of net a x) ≤ (if is_control x then 1 else 0) + 3 * length (links_out net a Poll)
sweep-cost net a Observer q = omega arith
sweep-cost net a (Control d) q = let e : allowed net (a, action_choice net a) ≡ suc (3 * length (served net a)) = ap (λ i. allowance net a i (action_choice net a)) q ∙ ap (λ b. if b then suc (3 * length (served net a)) else 0) (eq-eqb (action_choice net a) (action_choice net a) refl) in
    omega (arith, e, length-map (links_out net a Poll) (serving net a))
sweep-cost net a (OfUnit i) q = omega arith
sweep-cost net a (OfHost h) q = omega arith

threes : (f : ℕ → ℕ) (xs : List ℕ) → weigh (λ a. 3 * f a) xs ≡ 3 * weigh f xs
threes f [] = refl
threes f (x ∷ xs) = omega (arith, threes f xs)

out-once : (net : Net) (t : Sort) → weigh (λ a. length (links_out net a t)) (below (length net.actors)) ≤ length (sorted net t)
out-once net t = omega (
  arith,
  weigh-same-each (λ a. length (links_out net a t)) (λ a. weigh (λ l. if (link_of net l).from == a then (if of_sort net t l then 1 else 0) else 0) (link_numbers net)) (below (length net.actors)) (λ a. sym (weigh-ones-is (links_out net a t)) ∙ out-weigh net a t (λ l. 1)),
  weigh-keyed (λ l. (link_of net l).from) (λ l. if of_sort net t l then 1 else 0) (length net.actors) (link_numbers net),
  tally-is (of_sort net t) (link_numbers net),
)

gain-cost : (parts : Parts) → IsWired (net_of parts) → sweep_gain (net_of parts) ≤ length parts.devices + 3 * length (units (net_of parts))
gain-cost parts t = let net = net_of parts in let ns = below (length (actors_of parts)) in omega (
  arith,
  weigh-flat (allowed net) (λ a. sweep_of net a (actor_of net a)) ns,
  weigh-at-most (λ a. weigh (allowed net) (sweep_of net a (actor_of net a))) (λ a. (if is_control (actor_of net a) then 1 else 0) + 3 * length (links_out net a Poll)) ns (λ a. sweep-cost net a (actor_of net a) refl),
  weigh-plus (λ a. if is_control (actor_of net a) then 1 else 0) (λ a. 3 * length (links_out net a Poll)) ns,
  threes (λ a. length (links_out net a Poll)) ns,
  tally-is (λ a. is_control (actor_of net a)) ns,
  controls-few parts t,
  out-once net Poll,
  polls-few parts t,
)

-- A control plane serves 16 units at most.

abbrev unit_key : ActorId → ℕ
unit_key (OfUnit u) = 2 * u.port + side_number u.side
unit_key _ = 0

same-unit : (i j : UnitId) → i.device ≡ j.device → 2 * i.port + side_number i.side ≡ 2 * j.port + side_number j.side → i ≡ j
same-unit i j d k = by_sides i.side refl j.side refl
  where
    by_sides : (s : Side) → i.side ≡ s → (t : Side) → j.side ≡ t → i ≡ j
    by_sides Ingress a Ingress b = let p : i.port ≡ j.port = omega (arith, k, ap side_number a, ap side_number b) in
        ap (λ d. record { device = d; port = i.port; side = i.side }) d ∙ ap (λ p. record { device = j.device; port = p; side = i.side }) p ∙ ap (λ s. record { device = j.device; port = j.port; side = s }) (a ∙ sym b)
    by_sides Egress a Egress b = let p : i.port ≡ j.port = omega (arith, k, ap side_number a, ap side_number b) in
        ap (λ d. record { device = d; port = i.port; side = i.side }) d ∙ ap (λ p. record { device = j.device; port = p; side = i.side }) p ∙ ap (λ s. record { device = j.device; port = j.port; side = s }) (a ∙ sym b)
    by_sides Ingress a Egress b = absurd (omega (arith, k, ap side_number a, ap side_number b))
    by_sides Egress a Ingress b = absurd (omega (arith, k, ap side_number a, ap side_number b))

-- the unit that a link of polls leads to
record Polled (parts : Parts) (a l : ℕ) : Type 0 where
  link : HasEnds (net_of parts) l
  unit : UnitId
  is_unit : link.receiver ≡ OfUnit unit
  device : unit.device ≡ home (actor_of (net_of parts) a)
  port : unit.port < 8

polled : (parts : Parts) (a l : ℕ) → IsWired (net_of parts) → IsOut (net_of parts) a Poll l → Polled parts a l
polled parts a l t o = let k = t.ends l o.is_link in let y = t.poll_to l o.is_link o.sort in
    let r : k.receiver ≡ OfUnit y.0 = sym (k.to_is) ∙ y.1 in
    let h : IsActor parts (OfUnit y.0) = subst (IsActor parts) r k.is_receiver in
    let p : y.0.port < ports_of parts y.0.device = h.1 in
    record { link = k; unit = y.0; is_unit = r; device = sym (k.inner (ap is_inner o.sort) ∙ ap home r) ∙ ap home (sym (k.from_is) ∙ ap (actor_of (net_of parts)) o.from); port = omega (arith, p, t.valid.ports y.0.device) }

side-small : (s : Side) → side_number s ≤ 1
side-small Ingress = omega arith
side-small Egress = omega arith

served-few : (parts : Parts) (a : ℕ) → IsWired (net_of parts) → length (served (net_of parts) a) ≤ 16
served-few parts a t = omega (
  arith,
  length-map (links_out (net_of parts) a Poll) (serving (net_of parts) a),
  few-keys (λ l. unit_key (actor_of (net_of parts) (link_of (net_of parts) l).to)) 16 (links_out (net_of parts) a Poll) (distinct-out (net_of parts) a Poll)
      (λ l k p q e. one l k (out-of (net_of parts) a Poll l p) (out-of (net_of parts) a Poll k q) e) (λ l p. few l (polled parts a l t (out-of (net_of parts) a Poll l p))),
)
  where
    key : (l : ℕ) → (x : Polled parts a l) → unit_key (actor_of (net_of parts) (link_of (net_of parts) l).to) ≡ 2 * x.unit.port + side_number x.unit.side
    key l x = ap unit_key (x.link.to_is ∙ x.is_unit)

    few : (l : ℕ) → Polled parts a l → unit_key (actor_of (net_of parts) (link_of (net_of parts) l).to) < 16
    few l x = omega (arith, key l x, x.port, side-small x.unit.side)

    one : (l k : ℕ) → IsOut (net_of parts) a Poll l → IsOut (net_of parts) a Poll k → unit_key (actor_of (net_of parts) (link_of (net_of parts) l).to) ≡ unit_key (actor_of (net_of parts) (link_of (net_of parts) k).to) → l ≡ k
    one l k o p e = let x = polled parts a l t o in let y = polled parts a k t p in
        let u : x.unit ≡ y.unit = same-unit x.unit y.unit (x.device ∙ sym y.device) (sym (key l x) ∙ e ∙ key k y) in
        t.one_link l k o.is_link p.is_link (o.from ∙ sym p.from) (same-to parts l k t x.link y.link (x.is_unit ∙ ap OfUnit u ∙ sym y.is_unit)) (o.sort ∙ sym p.sort)

-- For each net of parts without a fault.
pub record IsCosted (net : Net) : Type 0 where
  pub round : round_price net ≤ 1 + length net.parts.devices + (links_of_sort net Init + (links_of_sort net Crossbar + links_of_sort net Cable))
  pub gain : sweep_gain net ≤ length net.parts.devices + 3 * length (units net)
  pub served : (a : ℕ) → length (served net a) ≤ 16

pub costed : (net : Net) → IsNet net → IsWired net → IsCosted net
costed net n = subst (λ m. IsWired m → IsCosted m) (sym n.made)
    (λ t. record { round = round-cost net.parts t; gain = gain-cost net.parts t; served = λ a. served-few net.parts a t })
