-- What a scene of nodes tells is what the world of histories that it stands for says.
use Rattle.std.proofs.Common.{◌≡◌, ℕ, zero, suc, ◌+◌, ◌-◌, ◌*◌, ◌^◌, ◌<◌, ◌≤◌, List, [], ◌∷◌, ◌++◌, length, refl, sym, ap, subst, ◌∙◌, Option, Some, None, arith, inl, inr, take, get_or, append-nil, append_assoc}
use Rattle.std.specs.Prelude.{min, ◌⊎◌, ◌&&◌, true, false, Bool, if◌then◌else◌, filter, cond, map, slice_get}
use Rattle.std.specs.List.{fold, range_with_len}
use Rattle.std.proofs.lemmas.List.{get_or-map, take_more}
use Rattle.std.proofs.lemmas.Option.{slice_get_cases, slice_get_within, get_or_from_slice_get}
use Rattle.sl_machine.specs.declared.wiring.Entry.{Entry as BookEntry}
use Rattle.sl_layout.specs.declared.actor.ActorId.{ActorId}
use Rattle.sl_layout.specs.declared.actor.ActorId.TheVariants.{Observer, Control, Unit as OfUnit, Host as OfHost}
use Rattle.sl_layout.specs.declared.actor.Side.{Side}
use Rattle.sl_layout.specs.declared.actor.Side.TheVariants.{Ingress, Egress}
use Rattle.sl_layout.specs.declared.actor.Sort.{Sort}
use Rattle.sl_layout.specs.declared.actor.Sort.TheVariants.{Cable, Crossbar, Init, Notice}
use Rattle.sl_net.specs.declared.input.Snapshot.{Snapshot}
use Rattle.sl_parts.specs.Parts.{below}
use Rattle.sl_layout.specs.Net.{Net, same_side, same_sort, actor_of, link_of, link_numbers, is_unit, is_host, units, hosts, data_channels}
use Rattle.sl_layout.specs.Devices.{device_of}
use Rattle.sl_net.specs.Input.{Input}
use Rattle.sl_net.specs.Wired.{IsNet, IsWired}
use Rattle.sl_parts.proofs.Lists.{filter-and}
use Rattle.std.proofs.lemmas.List.{length-map}
use Rattle.std.proofs.lemmas.List.FromFn.{length-range_with_len}
use Rattle.sl_saves.specs.Views.{held_saved}
use Rattle.sl_wire.specs.declared.message.Msg.{Msg}
use Rattle.sl_wire.specs.Sizes.{sizes_of}
use Rattle.sl_observe.specs.Observer.{ObserverState, new_unit, register_floor}
use Rattle.sl_model.specs.Words.{listed, numbers, weigh, tally}
use Rattle.sl_model.specs.History.{History, World, Losses, history, put}
use Rattle.sl_model.specs.Counting.{bad, expired, noroute}
use Rattle.sl_model.specs.Books.{schedule_of}
use Rattle.sl_model.specs.Setup.{Setup, setup_of}
use Rattle.sl_model.specs.Knowledge.{observer, issued, resent, floor, collected, upto_of}
use Rattle.sl_model.specs.World.{Entry, world, sender}
use Rattle.sl_model.specs.Findings.{is_ingress, ingress_units, drops_of, lost_on, sent_by, delivered_to, findings}
use Rattle.sl_model.proofs.Lists.Weighed.{weigh_more, weigh_take, weigh_below_more}
use Rattle.sl_model.specs.Accounts.{finding_by}
use Rattle.sl_model.specs.Turns.{TakesTurns}
use Rattle.sl_simulation.specs.ObserverImage.{unit_of, observer_of, IsObserverOf}
use Rattle.sl_model.specs.Rows.{row}
use Rattle.sl_simulation.specs.UnitImage.{dropped}
use Rattle.sl_simulation.proofs.ObserverUnits.{channels-are}
use Rattle.sl_simulation.proofs.ObserverWorlds.{unit-at}
use Rattle.sl_world.specs.Scene.{Scene}
use Rattle.sl_proto.specs.Image.{IsImage}
use Rattle.sl_proto.specs.Meaning.{StandsAs, NodeStands}
use Rattle.sl_proto.specs.Nodes.{NodeState, ObserverNode, ControlNode, UnitNode, HostNode}
use Rattle.sl_proto.specs.Standing.{case_of, StandsFor, HasObserver}
use Rattle.sl_proto.specs.Told.{HasRows, HasAllRows, accounts_of, sent_told, delivered_told, drops_told, all_drops, lost_told, all_lost, CanTell, told}
use Rattle.sl_proto.proofs.Images.{put-small, wires-each}

-- Lists.

numbers-from : {A : Type 0} (f : A → Option ℕ) (test : ℕ → Bool) (g : ℕ → ℕ) (n : ℕ) (xs : List A) → ((i : ℕ) (x : A) → slice_get xs i ≡ Some x → f x ≡ (if test (n + i) then Some (g (n + i)) else None))
    → numbers f xs ≡ map g (filter test (range_with_len n (length xs)))
numbers-from f test g n [] h = refl
numbers-from {A} f test g n (x ∷ xs) h = ap (λ o. listed o ++ numbers f xs) (h 0 x refl ∙ ap (λ j. if test j then Some (g j) else None) (let e : n + 0 ≡ n = omega arith in e))
    ∙ by_bool (test n) (numbers-from f test g (n + 1) xs (λ i y e. h (suc i) y e ∙ ap (λ j. if test j then Some (g j) else None) (let k : n + suc i ≡ n + 1 + i = omega arith in k)))
  where
    by_bool : (b : Bool) → numbers f xs ≡ map g (filter test (range_with_len (n + 1) (length xs)))
        → listed (if b then Some (g n) else None) ++ numbers f xs ≡ map g (if b then n ∷ filter test (range_with_len (n + 1) (length xs)) else filter test (range_with_len (n + 1) (length xs)))
    by_bool true rest = ap (λ r. g n ∷ r) rest
    by_bool false rest = rest

numbers-are : {A : Type 0} (f : A → Option ℕ) (test : ℕ → Bool) (g : ℕ → ℕ) (n : ℕ) (xs : List A) → length xs ≡ n → ((i : ℕ) (x : A) → slice_get xs i ≡ Some x → f x ≡ (if test i then Some (g i) else None))
    → numbers f xs ≡ map g (filter test (below n))
numbers-are f test g n xs e h = numbers-from f test g 0 xs (λ i x q. h i x q ∙ ap (λ j. if test j then Some (g j) else None) (let k : i ≡ 0 + i = omega arith in k)) ∙ ap (λ m. map g (filter test (below m))) e

weigh-from : {A : Type 0} (f : A → ℕ) (test : ℕ → Bool) (g : ℕ → ℕ) (n : ℕ) (xs : List A) → ((i : ℕ) (x : A) → slice_get xs i ≡ Some x → f x ≡ (if test (n + i) then g (n + i) else 0))
    → weigh f xs ≡ weigh g (filter test (range_with_len n (length xs)))
weigh-from f test g n [] h = refl
weigh-from {A} f test g n (x ∷ xs) h = ap (λ m. m + weigh f xs) (h 0 x refl ∙ ap (λ j. if test j then g j else 0) (let e : n + 0 ≡ n = omega arith in e))
    ∙ by_bool (test n) (weigh-from f test g (n + 1) xs (λ i y e. h (suc i) y e ∙ ap (λ j. if test j then g j else 0) (let k : n + suc i ≡ n + 1 + i = omega arith in k)))
  where
    by_bool : (b : Bool) → weigh f xs ≡ weigh g (filter test (range_with_len (n + 1) (length xs)))
        → (if b then g n else 0) + weigh f xs ≡ weigh g (if b then n ∷ filter test (range_with_len (n + 1) (length xs)) else filter test (range_with_len (n + 1) (length xs)))
    by_bool true rest = ap (λ m. g n + m) rest
    by_bool false rest = (let z : 0 + weigh f xs ≡ weigh f xs = omega arith in z) ∙ rest

weigh-are : {A : Type 0} (f : A → ℕ) (test : ℕ → Bool) (g : ℕ → ℕ) (n : ℕ) (xs : List A) → length xs ≡ n → ((i : ℕ) (x : A) → slice_get xs i ≡ Some x → f x ≡ (if test i then g i else 0))
    → weigh f xs ≡ weigh g (filter test (below n))
weigh-are f test g n xs e h = weigh-from f test g 0 xs (λ i x q. h i x q ∙ ap (λ j. if test j then g j else 0) (let k : i ≡ 0 + i = omega arith in k)) ∙ ap (λ m. weigh g (filter test (below m))) e

-- of the numbers that pass a test
weigh-same : (f g : ℕ → ℕ) (test : ℕ → Bool) (s n : ℕ) → ((k : ℕ) → k < s + n → f k ≡ g k) → weigh f (filter test (range_with_len s n)) ≡ weigh g (filter test (range_with_len s n))
weigh-same f g test s zero h = refl
weigh-same f g test s (suc n) h = by_bool (test s) (weigh-same f g test (s + 1) n (λ k p. h k (omega (arith, p))))
  where
    by_bool : (b : Bool) → weigh f (filter test (range_with_len (s + 1) n)) ≡ weigh g (filter test (range_with_len (s + 1) n))
        → weigh f (if b then s ∷ filter test (range_with_len (s + 1) n) else filter test (range_with_len (s + 1) n)) ≡ weigh g (if b then s ∷ filter test (range_with_len (s + 1) n) else filter test (range_with_len (s + 1) n))
    by_bool true rest = let e = h s (omega arith) in omega (arith, e, rest)
    by_bool false rest = rest

weigh-few : (f : ℕ → ℕ) (test : ℕ → Bool) (s n : ℕ) → ((k : ℕ) → k < s + n → f k < 2 ^ 40) → weigh f (filter test (range_with_len s n)) ≤ n * 2 ^ 40
weigh-few f test s zero h = omega arith
weigh-few f test s (suc n) h = by_bool (test s) (weigh-few f test (s + 1) n (λ k p. h k (omega (arith, p))))
  where
    by_bool : (b : Bool) → weigh f (filter test (range_with_len (s + 1) n)) ≤ n * 2 ^ 40
        → weigh f (if b then s ∷ filter test (range_with_len (s + 1) n) else filter test (range_with_len (s + 1) n)) ≤ suc n * 2 ^ 40
    by_bool true rest = let e = h s (omega arith) in omega (arith, e, rest)
    by_bool false rest = omega (arith, rest)

-- the next state
pub weigh_next : (f : NodeState → ℕ) (xs : List NodeState) (i : ℕ) (x : NodeState) → slice_get xs i ≡ Some x → (weigh f (take (i + 1) xs) ≡ weigh f (take i xs) + f x) × (weigh f (take (i + 1) xs) ≤ weigh f xs)
weigh_next f xs i x e = (weigh_more f xs i x (slice_get_within xs i x e) ∙ ap (λ y. weigh f (take i xs) + f y) (get_or_from_slice_get xs i x x e), weigh_take f xs (i + 1))

numbers-snoc : (f : NodeState → Option ℕ) (xs : List NodeState) (x : NodeState) → numbers f (xs ++ x ∷ []) ≡ numbers f xs ++ listed (f x)
numbers-snoc f [] x = append-nil (listed (f x))
numbers-snoc f (y ∷ ys) x = ap (λ r. listed (f y) ++ r) (numbers-snoc f ys x) ∙ sym (append_assoc (listed (f y)) (numbers f ys) (listed (f x)))

numbers_next : (f : NodeState → Option ℕ) (xs : List NodeState) (i : ℕ) (x : NodeState) → slice_get xs i ≡ Some x → numbers f (take (i + 1) xs) ≡ numbers f (take i xs) ++ listed (f x)
numbers_next f xs i x e = ap (numbers f) (take_more xs i x (slice_get_within xs i x e)) ∙ numbers-snoc f (take i xs) (get_or xs i x) ∙ ap (λ y. numbers f (take i xs) ++ listed (f y)) (get_or_from_slice_get xs i x x e)

-- with what one element more tells
pub numbers_grow : (f : NodeState → Option ℕ) (xs : List NodeState) (i : ℕ) (ns ms : List ℕ) (more : Option ℕ) → i < length xs → ((x : NodeState) → slice_get xs i ≡ Some x → more ≡ f x)
    → ns ≡ numbers f (take i xs) → ms ≡ ns ++ listed more → ms ≡ numbers f (take (i + 1) xs)
numbers_grow f xs i ns ms more low is n m = by_place (slice_get_cases xs i).1
  where
    by_place : ((x : NodeState) × (i < length xs) × (slice_get xs i ≡ Some x) × (get_or xs i x ≡ x)) ⊎ ((length xs ≤ i) × (slice_get xs i ≡ None)) → ms ≡ numbers f (take (i + 1) xs)
    by_place (inl q) = let here = q.2 in m ∙ ap (λ r. r ++ listed more) n ∙ ap (λ o. numbers f (take i xs) ++ listed o) (is q.0 here) ∙ sym (numbers_next f xs i q.0 here)
    by_place (inr q) = absurd (omega (arith, low, q.0))

-- the sum over fewer numbers that pass a test
weigh-grows : (f : ℕ → ℕ) (test : ℕ → Bool) (i d : ℕ) → weigh f (filter test (below i)) ≤ weigh f (filter test (below (i + d)))
weigh-grows f test i zero = let z : i ≡ i + 0 = omega arith in subst (λ n. weigh f (filter test (below i)) ≤ weigh f (filter test (below n))) z (omega arith)
weigh-grows f test i (suc d) = let z : (i + d) + 1 ≡ i + suc d = omega arith in subst (λ n. weigh f (filter test (below i)) ≤ weigh f (filter test (below n))) z
    (let m = weigh_below_more f test (i + d) in let r = weigh-grows f test i d in omega (arith, m, r))

weigh_below_all : (f : ℕ → ℕ) (test : ℕ → Bool) (i n : ℕ) → i ≤ n → weigh f (filter test (below i)) ≤ weigh f (filter test (below n))
weigh_below_all f test i n p = let z : i + (n - i) ≡ n = omega (arith, p) in subst (λ m. weigh f (filter test (below i)) ≤ weigh f (filter test (below m))) z (weigh-grows f test i (n - i))

-- the sum over the numbers that pass up to i, and over all of them
pub weigh_below_next : (f : ℕ → ℕ) (test : ℕ → Bool) (i n : ℕ) → i < n
    → (weigh f (filter test (below (i + 1))) ≡ weigh f (filter test (below i)) + weigh f (cond (test i) (i ∷ []) [])) × (weigh f (filter test (below (i + 1))) ≤ weigh f (filter test (below n)))
weigh_below_next f test i n p = (weigh_below_more f test i, weigh_below_all f test (i + 1) n (omega (arith, p)))

weigh-most : {A : Type 0} (f g : A → ℕ) (xs : List A) → ((x : A) → f x ≤ g x) → weigh f xs ≤ weigh g xs
weigh-most f g [] h = omega arith
weigh-most f g (x ∷ xs) h = omega (arith, h x, weigh-most f g xs h)

tally-most : {A : Type 0} (test : A → Bool) (xs : List A) → tally test xs ≤ length xs
tally-most test [] = omega arith
tally-most test (x ∷ xs) = by_bool (test x) (tally-most test xs)
  where
    by_bool : (b : Bool) → tally test xs ≤ length xs → (if b then 1 else 0) + tally test xs ≤ suc (length xs)
    by_bool true rest = omega (arith, rest)
    by_bool false rest = omega (arith, rest)

first-of : {A : Type 0} (xs : List A) → 0 < length xs → (x : A) × (slice_get xs 0 ≡ Some x)
first-of [] h = absurd (omega (arith, h))
first-of (x ∷ xs) h = (x, refl)

-- Nodes.

pub record SaysNode (s : Setup) (w : World) (a : ℕ) (i : ActorId) (x : NodeState) : Type 0 where
  pub sent : sent_told x ≡ (if is_host i then Some (sent_by s.net w a) else None)
  pub delivered : delivered_told x ≡ (if is_host i then Some (delivered_to w a) else None)
  pub bad : (drops_told x).bad ≡ (if is_unit i && is_ingress i then bad (history w a) else 0)
  pub expired : (drops_told x).expired ≡ (if is_unit i && is_ingress i then expired (history w a) else 0)
  pub noroute : (drops_told x).noroute ≡ (if is_unit i && is_ingress i then noroute s.net.parts (device_of i) (history w a) else 0)

by-side : (side : Side) (n : ℕ) → dropped side n ≡ (if same_side side Ingress then n else 0)
by-side Ingress n = refl
by-side Egress n = refl

node-says : (s : Setup) (table : Snapshot) (w : World) (a : ℕ) (i : ActorId) (x : NodeState) → StandsAs s table w a i x → SaysNode s w a i x
node-says s table w a Observer (ObserverNode o) h = record { sent = refl; delivered = refl; bad = refl; expired = refl; noroute = refl }
node-says s table w a (Control d) (ControlNode o) h = record { sent = refl; delivered = refl; bad = refl; expired = refl; noroute = refl }
node-says s table w a (OfUnit u) (UnitNode o) h = record {
  sent = refl;
  delivered = refl;
  bad = h.registers.bad ∙ by-side u.side (bad (history w a));
  expired = h.registers.expired ∙ by-side u.side (expired (history w a));
  noroute = h.registers.noroute ∙ by-side u.side (noroute s.net.parts u.device (history w a));
}
node-says s table w a (OfHost k) (HostNode o) h = record { sent = ap (λ o. Some o.sent) h; delivered = ap (λ o. Some o.delivered) h; bad = refl; expired = refl; noroute = refl }
node-says s table w a Observer (ControlNode o) h = absurd h
node-says s table w a Observer (UnitNode o) h = absurd h
node-says s table w a Observer (HostNode o) h = absurd h
node-says s table w a (Control d) (ObserverNode o) h = absurd h
node-says s table w a (Control d) (UnitNode o) h = absurd h
node-says s table w a (Control d) (HostNode o) h = absurd h
node-says s table w a (OfUnit u) (ObserverNode o) h = absurd h
node-says s table w a (OfUnit u) (ControlNode o) h = absurd h
node-says s table w a (OfUnit u) (HostNode o) h = absurd h
node-says s table w a (OfHost k) (ObserverNode o) h = absurd h
node-says s table w a (OfHost k) (ControlNode o) h = absurd h
node-says s table w a (OfHost k) (UnitNode o) h = absurd h

-- The observer.

-- the observer's node, where it stands for what the world's observer knows
pub record IsWatched (net : Net) (table : Snapshot) (w : World) (x : NodeState) : Type 0 where
  pub observer : ObserverState
  pub is : x ≡ ObserverNode observer
  pub stands : IsObserverOf net table w observer

watched-as : (s : Setup) (table : Snapshot) (w : World) (x : NodeState) → StandsAs s table w 0 Observer x → IsWatched s.net table w x
watched-as s table w (ObserverNode o) h = record { observer = o; is = refl; stands = h }
watched-as s table w (ControlNode o) h = absurd h
watched-as s table w (UnitNode o) h = absurd h
watched-as s table w (HostNode o) h = absurd h

first-actor : (net : Net) → IsNet net → (actor_of net 0 ≡ Observer) × (0 < length net.actors)
first-actor net n = subst (λ m. (actor_of m 0 ≡ Observer) × (0 < length m.actors)) (sym n.made) (refl, omega arith)

unit-collected : (credits : ℕ) (net : Net) (u : ℕ) (g : History) → length (data_channels net u) ≤ 8 → HasRows net u (unit_of credits net u g)
unit-collected credits net u g few = record {
  channels = refl;
  rows = length-map (range_with_len 1 (upto_of net u g)) (λ k. held_saved (row credits (data_channels net u) k g)) ∙ length-range_with_len 1 (upto_of net u g)
      ∙ sym (ap (fold min (unit_of credits net u g).id) (channels-are net u g few));
}

pub has-collected : (net : Net) (table : Snapshot) (w : World) → IsWired net → HasAllRows net (observer_of net table w)
has-collected net table w n = let f = λ (u : ℕ). unit_of table.credits net u (collected net w u) in record {
  count = length-map (units net) f;
  each = λ place p. let t = unit-at net place p in let u = get_or (units net) place 0 in
      subst (HasRows net u) (sym (get_or-map f (units net) place 0 (new_unit 0 0) p)) (unit-collected table.credits net u (collected net w u) (n.few_channels u t.0 t.1));
}

-- A scene that stands for the world of a schedule.

module _ (turns : TakesTurns) (s : Setup) (table : Snapshot) (lost : Losses) (es : List Entry) (v : Scene NodeState Msg) (net : IsNet s.net) (image : IsImage s lost (sizes_of table) (NodeStands s table) (world s lost es) v) where
  says : (i : ℕ) (x : NodeState) → slice_get v.states i ≡ Some x → SaysNode s (world s lost es) i (actor_of s.net i) x
  says i x e = node-says s table (world s lost es) i (actor_of s.net i) x (image.states i x e)

  sent-is : numbers sent_told v.states ≡ map (sent_by s.net (world s lost es)) (hosts s.net)
  sent-is = numbers-are sent_told (λ a. is_host (actor_of s.net a)) (sent_by s.net (world s lost es)) (length s.net.actors) v.states image.states_each (λ i x e. (says i x e).sent)

  delivered-is : numbers delivered_told v.states ≡ map (delivered_to (world s lost es)) (hosts s.net)
  delivered-is = numbers-are delivered_told (λ a. is_host (actor_of s.net a)) (delivered_to (world s lost es)) (length s.net.actors) v.states image.states_each (λ i x e. (says i x e).delivered)

  over-ingress : (f : NodeState → ℕ) (g : ℕ → ℕ) → ((i : ℕ) (x : NodeState) → slice_get v.states i ≡ Some x → f x ≡ (if is_unit (actor_of s.net i) && is_ingress (actor_of s.net i) then g i else 0)) → weigh f v.states ≡ weigh g (ingress_units s.net)
  over-ingress f g h = weigh-are f (λ a. is_unit (actor_of s.net a) && is_ingress (actor_of s.net a)) g (length s.net.actors) v.states image.states_each h
      ∙ ap (weigh g) (sym (filter-and (λ a. is_unit (actor_of s.net a)) (λ a. is_ingress (actor_of s.net a)) (below (length s.net.actors))))

  bad-is : (all_drops v.states).bad ≡ (drops_of s.net (world s lost es)).bad
  bad-is = over-ingress (λ x. (drops_told x).bad) (λ u. bad (history (world s lost es) u)) (λ i x e. (says i x e).bad)

  expired-is : (all_drops v.states).expired ≡ (drops_of s.net (world s lost es)).expired
  expired-is = over-ingress (λ x. (drops_told x).expired) (λ u. expired (history (world s lost es) u)) (λ i x e. (says i x e).expired)

  noroute-is : (all_drops v.states).noroute ≡ (drops_of s.net (world s lost es)).noroute
  noroute-is = over-ingress (λ x. (drops_told x).noroute) (λ u. noroute s.net.parts (device_of (actor_of s.net u)) (history (world s lost es) u)) (λ i x e. (says i x e).noroute)

  lost-is : (sort : Sort) → all_lost s.net v sort ≡ weigh (lost_on s.net lost (world s lost es)) (filter (λ l. same_sort (link_of s.net l).sort sort) (link_numbers s.net))
  lost-is sort = weigh-same (lost_told v) (lost_on s.net lost (world s lost es)) (λ l. same_sort (link_of s.net l).sort sort) 0 (length s.net.links) (λ k p. (image.lines k (omega (arith, p))).count)

  -- Sums.

  few-drops : (count : ℕ → History → ℕ) → ((u : ℕ) (h : History) → count u h ≤ length h) → length es < 2 ^ 40 → weigh (λ u. count u (history (world s lost es) u)) (ingress_units s.net) < 2 ^ 64
  few-drops count h few = let w = world s lost es in
      let a = weigh-most (λ u. count u (history w u)) (λ u. length (history w u)) (ingress_units s.net) (λ u. h u (history w u)) in
      let b = turns.ingress s.net w (turns.actors s lost es) in
      let c = turns.all_few s lost es in
      omega (arith, a, b, c, few)

  few-lost : IsWired s.net → length s.net.links ≤ 77888 → length es < 2 ^ 40 → (sort : Sort) → all_lost s.net v sort < 2 ^ 64
  few-lost wired links few sort = let all = weigh-few (lost_told v) (λ l. same_sort (link_of s.net l).sort sort) 0 (length s.net.links) one in omega (arith, all, links)
    where
      one : (l : ℕ) → l < 0 + length s.net.links → lost_told v l < 2 ^ 40
      one l p = let w = world s lost es in
          let h = sender s.net w l in
          let a = (image.lines l (omega (arith, p))).count in
          let b = tally-most (λ n. lost l n) (range_with_len 1 (length (put l h))) in
          let c = length-range_with_len 1 (length (put l h)) in
          let d = put-small s (link_of s.net l).from l h wired ((turns.fifo_run s lost es).made (link_of s.net l).from) in
          let e = turns.few s lost es (link_of s.net l).from in
          omega (arith, a, b, c, d, e, few)

  -- The observer.

  pub watched : (x : NodeState) → slice_get v.states 0 ≡ Some x → IsWatched s.net table (world s lost es) x
  watched x e = watched-as s table (world s lost es) x (subst (λ i. StandsAs s table (world s lost es) 0 i x) (first-actor s.net net).0 (image.states 0 x e))

  pub observed : (o : ObserverState) → slice_get v.states 0 ≡ Some (ObserverNode o) → IsObserverOf s.net table (world s lost es) o
  observed o e = let t = watched (ObserverNode o) e in let same : o ≡ t.observer = (let q = t.is in cc) in same ∙ t.stands

  pub first_node : (x : NodeState) × (slice_get v.states 0 ≡ Some x)
  first_node = first-of v.states (let n = image.states_each in let m = (first-actor s.net net).1 in omega (arith, n, m))

  pub tells : (o : ObserverState) → slice_get v.states 0 ≡ Some (ObserverNode o) → IsWired s.net → length s.net.links ≤ 77888 → length es < 2 ^ 40 → CanTell s.net v o
  tells o e wired links few = record {
    nodes = image.states_each;
    links = ap (λ p. length p.links) image.plan ∙ wires-each s.net;
    collected = subst (HasAllRows s.net) (sym (observed o e)) (has-collected s.net table (world s lost es) wired);
    bad = subst (λ n. n < 2 ^ 64) (sym bad-is) (few-drops (λ u h. bad h) (λ u h. tally-most _ h) few);
    expired = subst (λ n. n < 2 ^ 64) (sym expired-is) (few-drops (λ u h. expired h) (λ u h. tally-most _ h) few);
    noroute = subst (λ n. n < 2 ^ 64) (sym noroute-is) (few-drops (λ u h. noroute s.net.parts (device_of (actor_of s.net u)) h) (λ u h. tally-most _ h) few);
    lost = few-lost wired links few;
  }

  pub told_is : (o : ObserverState) → register_floor o ≡ floor s.net (world s lost es) → o.issued ≡ issued s.net (observer (world s lost es)) → o.resent ≡ resent s.net (observer (world s lost es))
      → map (finding_by o.issued (accounts_of o)) (range_with_len 1 s.count) ≡ (findings s lost es).list → told s.net s.count v o ≡ findings s lost es
  told_is o f k r list = λ i. record {
    issued = k i;
    floor = f i;
    resent = r i;
    list = list i;
    sent = sent-is i;
    delivered = delivered-is i;
    drops = record { bad = bad-is i; expired = expired-is i; noroute = noroute-is i };
    lost = record { cable = lost-is Cable i; crossbar = lost-is Crossbar i; init = lost-is Init i; notice = lost-is Notice i };
  }

-- An input and a scene that stands for the world of its own book.

module _ (turns : TakesTurns) (i : Input) (lost : Losses) (v : Scene NodeState Msg) (h : StandsFor i.net (case_of i lost) v) where
  pub few_entries : length v.book < 2 ^ 40 → length (schedule_of v.book) < 2 ^ 40
  few_entries few = let n = length-map {B = Entry} v.book (λ (e : BookEntry). (e.actor, e.choice)) in omega (arith, n, few)

  pub has_observer : HasObserver v
  has_observer = let x = first_node turns (setup_of i) i.snapshot lost (schedule_of v.book) v h.runnable.net h.image in
      let o = watched turns (setup_of i) i.snapshot lost (schedule_of v.book) v h.runnable.net h.image x.0 x.1 in
      record { observer = o.observer; first = x.1 ∙ ap Some o.is }

  pub tells_it : (o : ObserverState) → slice_get v.states 0 ≡ Some (ObserverNode o) → IsWired i.net → length i.net.links ≤ 77888 → length v.book < 2 ^ 40 → CanTell i.net v o
  tells_it o e wired links few = tells turns (setup_of i) i.snapshot lost (schedule_of v.book) v h.runnable.net h.image o e wired links (few_entries few)

  pub observed_as : (o : ObserverState) → slice_get v.states 0 ≡ Some (ObserverNode o) → IsObserverOf i.net i.snapshot (world (setup_of i) lost (schedule_of v.book)) o
  observed_as o e = observed turns (setup_of i) i.snapshot lost (schedule_of v.book) v h.runnable.net h.image o e
