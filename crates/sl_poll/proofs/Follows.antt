-- What a course is of a world of whole histories, and that each entry keeps it.
--     LaneIs .. l lane     the lane has, of the messages that the link carried, those that were not taken, with their putters
--     FeedIs .. a feed     the feed has the packets of the host's frames, and how many it sent
use Rattle.std.proofs.Common.{◌≡◌, ℕ, zero, suc, ◌+◌, ◌-◌, ◌<◌, ◌≤◌, ◌^◌, List, [], ◌∷◌, ◌++◌, length, get_or, drop, replicate, refl, sym, ap, subst, ◌∙◌, Option, Some, None, arith, inl, inr, append-nil, length-append, eqb-true}
use Rattle.std.specs.Prelude.{◌⊎◌, Bool, true, false, cond, ◌==◌, map, slice_get, slice_set, option_map, nat_eq}
use Rattle.std.proofs.lemmas.Bool.{cases_lt}
use Rattle.std.proofs.lemmas.Bool.Decides.{eqb_tells}
use Rattle.std.proofs.lemmas.List.{get_or-set_same, get_or-set_other, length-set, length-map, length-replicate, drop-append-le, drop-drop}
use Rattle.std.proofs.lemmas.Option.{slice_get_within, slice_get-get_or}
use Rattle.sl_layout.specs.declared.actor.ActorId.{ActorId}
use Rattle.sl_layout.specs.declared.actor.ActorId.TheVariants.{Observer, Control, Unit as OfUnit, Host as OfHost}
use Rattle.sl_layout.specs.declared.actor.Side.{Side}
use Rattle.sl_layout.specs.declared.actor.Side.TheVariants.{Ingress, Egress}
use Rattle.sl_layout.specs.declared.actor.Sort.{Sort}
use Rattle.sl_layout.specs.declared.actor.Sort.TheVariants.{FromHost, ToHost, Cable, Crossbar}
use Rattle.sl_layout.specs.declared.actor.UnitId.{UnitId}
use Rattle.sl_layout.specs.Net.{Net, actor_of, link_of, links_into, links_from, link_numbers, links_out, choice_of, action_choice, is_unit, unit_place}
use Rattle.sl_net.specs.declared.input.Packet.{Packet}
use Rattle.sl_net.specs.Input.{Input}
use Rattle.sl_net.specs.Wired.{unit_receives, receives, IsWired}
use Rattle.sl_parts.specs.Lists.{Each}
use Rattle.sl_parts.proofs.Lists.{each-passes, each-filter, each-imp}
use Rattle.sl_model.specs.declared.message.Message.{Message}
use Rattle.sl_model.specs.declared.message.Message.TheVariants.{Host as HostMsg, Data}
use Rattle.sl_model.specs.declared.message.Put.{Put}
use Rattle.sl_model.specs.declared.message.Step.{Step}
use Rattle.sl_model.specs.Counting.{counted_in, counted}
use Rattle.sl_model.specs.Fit.{fits}
use Rattle.sl_model.specs.Frame.{packet_of}
use Rattle.sl_model.specs.History.{World, history, taken, takes, put, on_link, without_lost}
use Rattle.sl_model.specs.Losses.{loss_after, losses}
use Rattle.sl_model.specs.Made.{IsFifoRun}
use Rattle.sl_model.specs.Matching.{is_data}
use Rattle.sl_model.specs.Puts.{send_all, action}
use Rattle.sl_model.specs.Setup.{Setup, setup_of, frames_of}
use Rattle.sl_model.specs.Turns.{GrowsAt, TakesTurns, Takes, Acts}
use Rattle.sl_input.specs.Answers.{AnswerInOrder}
use Rattle.sl_model.specs.World.{Entry, carried, sender, next_step, turn, after}
use Rattle.sl_poll.specs.declared.lane.Mark.{Mark}
use Rattle.sl_poll.specs.declared.trail.Counted.{Counted}
use Rattle.sl_poll.specs.declared.way.Sends.{Sends}
use Rattle.sl_poll.specs.Lanes.{Lane, new_lane, lane_at, without_first, AreFew}
use Rattle.sl_model.specs.Putting.{Putters, putters_after}
use Rattle.sl_poll.specs.Trail.{packet_in, pair_from, pair_by, count_of, count_by}
use Rattle.sl_poll.specs.Ways.{Feed, no_feed, feed_at, next_of, more_sent, after_next, frames_for, bears, leads, links_by, sends_of, send_by, first_mark, rest_of, packet_on, pair_for, paired, counts, injected, lanes_after, feeds_after, pairs_told, counts_told}
use Rattle.sl_poll.proofs.Marks.{mark, marks, length-marks, marks-append, marks-new, mark-at, without-append, with_marks, puts-count, all-put, send-lane}
use Rattle.sl_poll.proofs.Moves.{sized-turn, step-grows, Next, Other, moved, sent_on, sent_by, shown, taken-shown, acted-shown}

pub record LaneIs (i : Input) (w : World) (putters : Putters) (l : ℕ) (lane : Lane) : Type 0 where
  pub size : length (putters l) ≡ length (carried i.net (losses i) w l)
  pub queue : lane.queue ≡ drop (taken (choice_of i.net l) (history w (link_of i.net l).to)) (marks (putters l) (carried i.net (losses i) w l))
  pub loss : lane.loss ≡ loss_after i l (length (put l (sender i.net w l)))
  pub puts : lane.puts ≡ length (put l (sender i.net w l))

pub record FeedIs (s : Setup) (w : World) (a : ℕ) (feed : Feed) : Type 0 where
  pub frames : feed.frames ≡ map packet_of (frames_for s (actor_of s.net a))
  pub sent : (h : ℕ) → actor_of s.net a ≡ OfHost h → feed.sent ≡ taken (action_choice s.net a) (history w a)

pub record Follows (i : Input) (w : World) (putters : Putters) (lanes : List Lane) (feeds : List Feed) : Type 0 where
  pub fifo_run : IsFifoRun (setup_of i) (losses i) w
  pub sized : length w ≡ length i.net.actors
  pub lanes_each : length lanes ≡ length i.net.links
  pub feeds_each : length feeds ≡ length i.net.actors
  pub lane : (l : ℕ) → l < length i.net.links → bears (link_of i.net l).sort ≡ true → LaneIs i w putters l (lane_at lanes l)
  pub feed : (a : ℕ) → a < length i.net.actors → FeedIs (setup_of i) w a (feed_at feeds a)

-- Lists.

map-empty : {A B : Type 0} (f : A → B) (xs : List A) → map f xs ≡ [] → xs ≡ []
map-empty f [] q = refl
map-empty f (x ∷ xs) q = absurd cc

got-map : {A B : Type 0} (f : A → B) (xs : List A) (k : ℕ) → slice_get (map f xs) k ≡ option_map f (slice_get xs k)
got-map f [] k = refl
got-map f (x ∷ xs) zero = refl
got-map f (x ∷ xs) (suc k) = got-map f xs k

none-past : (xs : List ℕ) (k : ℕ) → slice_get xs k ≡ None → length xs ≤ k
none-past xs k q = go (cases_lt k (length xs))
  where
    go : (k < length xs) ⊎ (length xs ≤ k) → length xs ≤ k
    go (inl h) = let x : None ≡ Some (get_or xs k 0) = sym q ∙ slice_get-get_or xs k 0 h in absurd cc
    go (inr h) = h

-- what an actor sends goes by its own links
sent-none : (net : Net) (a o : ℕ) (q : Option Packet) (ls : List ℕ) → Each (λ l. (link_of net l).from ≡ a) ls → ((link_of net o).from ≡ a → ⊥) → sent_on o q ls ≡ []
sent-none net a o q [] e ne = refl
sent-none net a o q (l ∷ ls) e ne = by_tells (eqb_tells l o) (sent-none net a o q ls e.1 ne)
  where
    by_tells : ((nat_eq l o ≡ true) × (l ≡ o)) ⊎ ((nat_eq l o ≡ false) × (l ≡ o → ⊥)) → sent_on o q ls ≡ [] → cond (l == o) (q ∷ sent_on o q ls) (sent_on o q ls) ≡ []
    by_tells (inl x) ih = absurd (ne (ap (λ k. (link_of net k).from) (sym x.1) ∙ e.0))
    by_tells (inr x) ih = ap (λ b. cond b (q ∷ sent_on o q ls) (sent_on o q ls)) x.0 ∙ ih

own-links : (net : Net) (a : ℕ) → Each (λ l. (link_of net l).from ≡ a) (links_from net a)
own-links net a = each-imp (λ l. ((link_of net l).from == a) ≡ true) (λ l. (link_of net l).from ≡ a) (links_from net a) (λ l t. eqb-true (link_of net l).from a t) (each-passes (λ l. (link_of net l).from == a) (link_numbers net))

sent-own : (net : Net) (a o : ℕ) (sends : Option Sends) → ((link_of net o).from ≡ a → ⊥) → sent_by net a o sends ≡ []
sent-own net a o None ne = refl
sent-own net a o (Some x) ne = sent-none net a o x.packet (links_by net a x.way) (each-filter (λ l. (link_of net l).from ≡ a) (leads net x.way) (links_from net a) (own-links net a)) ne

-- a unit takes no packet from a link that bears none
quiet : (side : Side) (s : Sort) (m : Message) → fits s m ≡ true → bears s ≡ false → unit_receives side s ≡ true → counted_in m ≡ None
quiet Ingress ToHost (HostMsg x) f b r = absurd cc
quiet Egress ToHost (HostMsg x) f b r = absurd cc
quiet side _ (HostMsg x) f b r = absurd cc
quiet side _ (Data t q) f b r = absurd cc
quiet side s _ f b r = refl

no-data : (s : Sort) → bears s ≡ false → is_data s ≡ false
no-data Cable b = absurd cc
no-data Crossbar b = absurd cc
no-data _ b = refl

-- One entry. w is the world before it, v the world after.

module _ (i : Input) (wired : IsWired i.net) (turns : TakesTurns) (answer : AnswerInOrder) (w : World) (e : Entry) (step : Step) (next : next_step (setup_of i) (losses i) w e ≡ Some step) (n : ℕ) (putters : Putters) where
  abbrev s : Setup
  s = setup_of i

  abbrev v : World
  v = turn (setup_of i) (losses i) w e

  abbrev took-in : World → ℕ → ℕ
  took-in x l = taken (choice_of i.net l) (history x (link_of i.net l).to)

  -- a lane after the take and before the puts
  record Half (l : ℕ) (lane : Lane) : Type 0 where
    pub size : length (putters l) ≡ length (carried i.net (losses i) w l)
    pub queue : lane.queue ≡ drop (took-in v l) (marks (putters l) (carried i.net (losses i) w l))
    pub within : took-in v l ≤ length (carried i.net (losses i) w l)
    pub loss : lane.loss ≡ loss_after i l (length (put l (sender i.net w l)))
    pub puts : lane.puts ≡ length (put l (sender i.net w l))

  grows : length w ≡ length i.net.actors → GrowsAt w v e.0 step
  grows z = subst (λ x. GrowsAt w x e.0 step) (sym (ap (after w e.0) next)) (step-grows (setup_of i) (losses i) w e step z next)

  module _ (z : length w ≡ length i.net.actors) (sends : Option Sends) (shows : (o : ℕ) → bears (link_of i.net o).sort ≡ true → shown o step.puts ≡ sent_by i.net e.0 o sends) where
    put-grows : (l : ℕ) → bears (link_of i.net l).sort ≡ true → put l (sender i.net v l) ≡ put l (sender i.net w l) ++ on_link l step.puts
    put-grows l b = by_tells (eqb_tells (link_of i.net l).from e.0)
      where
        by_tells : ((nat_eq (link_of i.net l).from e.0 ≡ true) × ((link_of i.net l).from ≡ e.0)) ⊎ ((nat_eq (link_of i.net l).from e.0 ≡ false) × ((link_of i.net l).from ≡ e.0 → ⊥))
            → put l (history v (link_of i.net l).from) ≡ put l (history w (link_of i.net l).from) ++ on_link l step.puts
        by_tells (inl x) = ap (λ a. put l (history v a)) x.1 ∙ ap (put l) (grows z).same ∙ ap (λ a. put l (history w a) ++ on_link l step.puts) (sym x.1)
        by_tells (inr x) = ap (put l) ((grows z).other (link_of i.net l).from x.1)
            ∙ sym (ap (λ r. put l (history w (link_of i.net l).from) ++ r) (map-empty counted_in (on_link l step.puts) (shows l b ∙ sent-own i.net e.0 l sends x.1)) ∙ append-nil (put l (history w (link_of i.net l).from)))

    lane-kept : (l : ℕ) (lanes : List Lane) → l < length lanes → bears (link_of i.net l).sort ≡ true → Half l (lane_at lanes l) → (lane_at (send_by i.net n e.0 sends lanes) l).puts < 2 ^ 64
        → LaneIs i v (putters_after i.net (losses i) w v n putters) l (lane_at (send_by i.net n e.0 sends lanes) l)
    lane-kept l lanes low b half few =
        let new-is : new ≡ with_marks n (map counted_in ms) lane = send-lane i.net n e.0 sends lanes l low ∙ ap (λ qs. with_marks n qs lane) (sym (shows l b)) in
        let shorts : length (map counted_in ms) ≡ length ms = simp length-map in
        let room : length base + length ms < 2 ^ 64 = omega (arith, few, ap (λ (x : Lane). x.puts) new-is, puts-count n (map counted_in ms) lane, half.puts, shorts) in
        let put-all = all-put answer i l n (length base) ms lane half.loss half.puts room in
        let grown : carried i.net (losses i) v l ≡ carried i.net (losses i) w l ++ extra =
        ap (without_lost (losses i l) 0) (put-grows l b) ∙ without-append (losses i l) 0 base ms ∙ (let k : 0 + length base ≡ length base = omega arith in ap (λ k. carried i.net (losses i) w l ++ without_lost (losses i l) k ms) k) in
        let count : length (carried i.net (losses i) v l) - length (carried i.net (losses i) w l) ≡ length extra = omega (arith, ap length grown, length-append (carried i.net (losses i) w l) extra) in
        let putters-are : putters_after i.net (losses i) w v n putters l ≡ putters l ++ replicate (length extra) n = ap (λ k. putters l ++ replicate k n) count in
        let marks-are : marks (putters_after i.net (losses i) w v n putters l) (carried i.net (losses i) v l) ≡ marks (putters l) (carried i.net (losses i) w l) ++ map (mark n) extra =
        ap (λ ps. marks ps (carried i.net (losses i) v l)) putters-are ∙ ap (marks (putters l ++ replicate (length extra) n)) grown
        ∙ marks-append (putters l) (replicate (length extra) n) (carried i.net (losses i) w l) extra half.size ∙ ap (λ r. marks (putters l) (carried i.net (losses i) w l) ++ r) (marks-new n extra) in
        let fit : took-in v l ≤ length (marks (putters l) (carried i.net (losses i) w l)) = omega (arith, half.within, length-marks (putters l) (carried i.net (losses i) w l) half.size) in
        let many : length (put l (sender i.net v l)) ≡ length base + length ms = ap length (put-grows l b) ∙ length-append base ms in
        record {
          size = omega (arith, ap length putters-are, length-append (putters l) (replicate (length extra) n), length-replicate (length extra) n, half.size, ap length grown, length-append (carried i.net (losses i) w l) extra);
          queue = ap (λ (x : Lane). x.queue) new-is ∙ put-all.queue ∙ ap (λ r. r ++ map (mark n) extra) half.queue
              ∙ sym (drop-append-le (took-in v l) (marks (putters l) (carried i.net (losses i) w l)) (map (mark n) extra) fit) ∙ ap (drop (took-in v l)) (sym marks-are);
          loss = ap (λ (x : Lane). x.loss) new-is ∙ put-all.loss ∙ ap (loss_after i l) (sym many);
          puts = ap (λ (x : Lane). x.puts) new-is ∙ put-all.puts ∙ sym many;
        }
      where
        lane : Lane
        lane = lane_at lanes l

        new : Lane
        new = lane_at (send_by i.net n e.0 sends lanes) l

        ms : List Message
        ms = on_link l step.puts

        base : List Message
        base = put l (sender i.net w l)

        extra : List Message
        extra = without_lost (losses i l) (length base) ms

  -- Lanes after the take.

  held : (f : IsFifoRun (setup_of i) (losses i) w) (l : ℕ) → l < length i.net.links → took-in w l ≤ length (carried i.net (losses i) w l)
  held f l low = let x = f.fifo (link_of i.net l).to (choice_of i.net l) l (wired.ways.taken l low) in
      omega (arith, ap length x.split, x.count, length-append (takes (choice_of i.net l) (history w (link_of i.net l).to)) x.rest)

  half-same : (f : IsFifoRun (setup_of i) (losses i) w) (l : ℕ) (lane : Lane) → l < length i.net.links → LaneIs i w putters l lane → took-in v l ≡ took-in w l → Half l lane
  half-same f l lane low x q = record {
    size = x.size;
    queue = x.queue ∙ ap (λ k. drop k (marks (putters l) (carried i.net (losses i) w l))) (sym q);
    within = omega (arith, q, held f l low);
    loss = x.loss;
    puts = x.puts;
  }

  half-next : (l : ℕ) (low : l < length i.net.links) (lane : Lane) → LaneIs i w putters l lane → Next (setup_of i) (losses i) l low w e → Half l (without_first lane)
  half-next l low lane x t = let one : took-in w l + 1 ≡ took-in v l = omega (arith, t.more) in record {
    size = x.size;
    queue = ap (drop 1) x.queue ∙ drop-drop 1 (took-in w l) (marks (putters l) (carried i.net (losses i) w l)) ∙ ap (λ k. drop k (marks (putters l) (carried i.net (losses i) w l))) one;
    within = let m = slice_get_within (carried i.net (losses i) w l) (took-in w l) t.message t.found in omega (arith, m, t.more);
    loss = x.loss;
    puts = x.puts;
  }

  -- An entry that takes.

  module _ (lanes : List Lane) (feeds : List Feed) (f : Follows i w putters lanes feeds) (t : Takes (setup_of i) (losses i) w e.0 step) where
    abbrev k : ℕ
    k = t.took.link

    abbrev m : Message
    m = t.took.message

    abbrev sort : Sort
    sort = (link_of i.net t.took.link).sort

    abbrev head : Option Mark
    head = first_mark lanes t.took.link (bears (link_of i.net t.took.link).sort)

    chosen : step.choice ≡ e.1
    chosen = turns.choice (setup_of i) (losses i) w e step next

    into : slice_get (links_into i.net e.0) e.1 ≡ Some k
    into = subst (λ c. slice_get (links_into i.net e.0) c ≡ Some k) chosen t.took.into

    to : (link_of i.net k).to ≡ e.0
    to = (wired.ways.into e.0 e.1 k into).to

    low : k < length i.net.links
    low = (wired.ways.into e.0 e.1 k into).is_link

    place : taken e.1 (history w e.0) ≡ took-in w k
    place = ap (λ c. taken c (history w e.0)) (sym (wired.ways.choice e.0 e.1 k into)) ∙ ap (λ a. taken (choice_of i.net k) (history w a)) (sym to)

    found : slice_get (carried i.net (losses i) w k) (took-in w k) ≡ Some m
    found = ap (slice_get (carried i.net (losses i) w k)) (sym place ∙ ap (λ c. taken c (history w e.0)) (sym chosen)) ∙ t.found

    fit : fits sort m ≡ true
    fit = turns.fits (setup_of i) (losses i) w e.0 step f.fifo_run t

    receiver : (j : UnitId) → actor_of i.net e.0 ≡ OfUnit j → unit_receives j.side sort ≡ true
    receiver j q = sym (ap (λ x. receives x sort) (ap (actor_of i.net) to ∙ q)) ∙ wired.receiver k low

    first : bears sort ≡ true → head ≡ Some (mark (get_or (putters k) (took-in w k) 0) m)
    first b = ap (first_mark lanes k) b ∙ ap (λ q. slice_get q 0) (f.lane k low b).queue ∙ mark-at (putters k) (carried i.net (losses i) w k) (took-in w k) m (f.lane k low b).size found

    packet-is : (j : UnitId) → actor_of i.net e.0 ≡ OfUnit j → packet_on head ≡ counted_in m
    packet-is j q = by_bool (bears sort) refl
      where
        by_bool : (b : Bool) → bears sort ≡ b → packet_on head ≡ counted_in m
        by_bool true b = ap packet_on (first b)
        by_bool false b = ap (λ x. packet_on (first_mark lanes k x)) b ∙ sym (quiet j.side sort m fit b (receiver j q))

    abbrev sends : Option Sends
    sends = sends_of i.net (actor_of i.net e.0) t.took.link (packet_on (first_mark lanes t.took.link (bears (link_of i.net t.took.link).sort)))

    sends-same : (x : ActorId) → actor_of i.net e.0 ≡ x → sends_of i.net x k (counted_in m) ≡ sends_of i.net x k (packet_on head)
    sends-same Observer q = refl
    sends-same (Control d) q = refl
    sends-same (OfUnit j) q = ap (sends_of i.net (OfUnit j) k) (sym (packet-is j q))
    sends-same (OfHost h) q = refl

    take-shows : (o : ℕ) → bears (link_of i.net o).sort ≡ true → shown o step.puts ≡ sent_by i.net e.0 o sends
    take-shows o b = ap (shown o) t.took.puts ∙ taken-shown (setup_of i) o b e.0 (actor_of i.net e.0) (history w e.0) step.choice k m fit receiver
        ∙ ap (sent_by i.net e.0 o) (sends-same (actor_of i.net e.0) refl)

    rest-each : (b : Bool) → length (rest_of lanes k b) ≡ length lanes
    rest-each true = length-set lanes k (without_first (lane_at lanes k))
    rest-each false = refl

    take-half : (l : ℕ) → l < length i.net.links → bears (link_of i.net l).sort ≡ true → Half l (lane_at (rest_of lanes k (bears sort)) l)
    take-half l link b = by_move (moved (setup_of i) (losses i) l link w e f.sized)
      where
        other : (k ≡ l → ⊥) → (z : Bool) → lane_at (rest_of lanes k z) l ≡ lane_at lanes l
        other ne true = get_or-set_other lanes k l (without_first (lane_at lanes k)) (new_lane None) (λ q. ne (sym q))
        other ne false = refl

        by_move : Next (setup_of i) (losses i) l link w e ⊎ Other (setup_of i) (losses i) l link w e → Half l (lane_at (rest_of lanes k (bears sort)) l)
        by_move (inl x) =
            let both : Some k ≡ Some l = sym into ∙ x.into in
            let same : k ≡ l = cc in
            let bearing : bears sort ≡ true = ap (λ z. bears (link_of i.net z).sort) same ∙ b in
            let lane-is : lane_at (rest_of lanes k (bears sort)) l ≡ without_first (lane_at lanes l) =
            ap (λ z. lane_at (rest_of lanes k z) l) bearing ∙ ap (λ z. lane_at (slice_set lanes z (without_first (lane_at lanes z))) l) same
            ∙ get_or-set_same lanes l (without_first (lane_at lanes l)) (new_lane None) (omega (arith, link, f.lanes_each)) in
            subst (Half l) (sym lane-is) (half-next l link (lane_at lanes l) (f.lane l link b) x)
        by_move (inr x) =
            let ne : k ≡ l → ⊥ = λ q. (let y : None ≡ Some step = sym (x.idle (into ∙ ap Some q)) ∙ next in absurd cc) in
            subst (Half l) (sym (other ne (bears sort))) (half-same f.fifo_run l (lane_at lanes l) link (f.lane l link b) x.same)

    take-feed : (a : ℕ) → a < length i.net.actors → FeedIs (setup_of i) v a (feed_at feeds a)
    take-feed a h = record { frames = (f.feed a h).frames; sent = λ g q. (f.feed a h).sent g q ∙ by_tells (eqb_tells a e.0) }
      where
        ne : step.choice ≡ action_choice i.net e.0 → ⊥
        ne q = let p = slice_get_within (links_into i.net e.0) step.choice k t.took.into in omega (arith, p, q)

        by_tells : ((nat_eq a e.0 ≡ true) × (a ≡ e.0)) ⊎ ((nat_eq a e.0 ≡ false) × (a ≡ e.0 → ⊥)) → taken (action_choice i.net a) (history w a) ≡ taken (action_choice i.net a) (history v a)
        by_tells (inl x) = ap (λ a. taken (action_choice i.net a) (history w a)) x.1 ∙ sym (turns.uncounted (action_choice i.net e.0) step (history w e.0) ne)
            ∙ sym (ap (taken (action_choice i.net e.0)) (grows f.sized).same) ∙ ap (λ a. taken (action_choice i.net a) (history v a)) (sym x.1)
        by_tells (inr x) = ap (taken (action_choice i.net a)) (sym ((grows f.sized).other a x.1))

    take-follows : AreFew (send_by i.net n e.0 sends (rest_of lanes k (bears sort))) → length (send_by i.net n e.0 sends (rest_of lanes k (bears sort))) ≡ length i.net.links
        → Follows i v (putters_after i.net (losses i) w v n putters) (send_by i.net n e.0 sends (rest_of lanes k (bears sort))) feeds
    take-follows few each = record {
      fifo_run = turns.goes_on (setup_of i) (losses i) w e f.fifo_run;
      sized = sized-turn (setup_of i) (losses i) w e f.sized;
      lanes_each = each;
      feeds_each = f.feeds_each;
      lane = λ l link b. lane-kept f.sized sends take-shows l (rest_of lanes k (bears sort)) (omega (arith, link, rest-each (bears sort), f.lanes_each)) b (take-half l link b)
          (few l (new_lane None) (omega (arith, link, each)));
      feed = take-feed;
    }

    take-pairs : pair_by i.net w n putters e (Some k) (Some step) ≡ paired (is_data sort) k n head
    take-pairs = ap (pair_from i.net n (putters k) k (taken e.1 (history w e.0))) (ap packet_in t.took.taken) ∙ by_bool (bears sort) refl
      where
        told : (j : ℕ) (q : Option Packet) → pair_from i.net n (putters k) k j q ≡ pair_for (is_data sort) k n (mark (get_or (putters k) j 0) m) q
        told j None = refl
        told j (Some p) = refl

        untold : bears sort ≡ false → (j : ℕ) (q : Option Packet) → pair_from i.net n (putters k) k j q ≡ []
        untold b j None = refl
        untold b j (Some p) = ap (λ d. cond d (record { link = k; put = get_or (putters k) j 0; take = n } ∷ []) []) (no-data sort b)

        by_bool : (b : Bool) → bears sort ≡ b → pair_from i.net n (putters k) k (taken e.1 (history w e.0)) (counted_in m) ≡ paired (is_data sort) k n head
        by_bool true b = ap (λ j. pair_from i.net n (putters k) k j (counted_in m)) place ∙ told (took-in w k) (counted_in m) ∙ sym (ap (paired (is_data sort) k n) (first b))
        by_bool false b = untold b (taken e.1 (history w e.0)) (counted_in m) ∙ sym (ap (λ x. paired (is_data sort) k n (first_mark lanes k x)) b)

    take-counts : count_by i.net n e.0 (Some step) ≡ counts i.net e.0 n (packet_on head)
    take-counts = by_actor (actor_of i.net e.0) refl
      where
        by_actor : (x : ActorId) → actor_of i.net e.0 ≡ x → cond (is_unit x) (count_of (unit_place i.net e.0) n (counted step)) [] ≡ cond (is_unit x) (count_of (unit_place i.net e.0) n (packet_on head)) []
        by_actor Observer q = refl
        by_actor (Control d) q = refl
        by_actor (OfUnit j) q = ap (count_of (unit_place i.net e.0) n) (ap packet_in t.took.taken ∙ sym (packet-is j q))
        by_actor (OfHost h) q = refl

  -- An entry that acts.

  module _ (lanes : List Lane) (feeds : List Feed) (f : Follows i w putters lanes feeds) (x : Acts (setup_of i) w e.0 step) where
    abbrev ac : ℕ
    ac = action_choice i.net e.0

    abbrev feed : Feed
    feed = feed_at feeds e.0

    abbrev after-feeds : List Feed
    after-feeds = slice_set feeds e.0 (after_next (feed_at feeds e.0))

    abbrev injects : Option Sends
    injects = injected (next_of (feed_at feeds e.0))

    here : e.0 < length i.net.actors
    here = turns.within (setup_of i) (losses i) w e step next

    past : slice_get (links_into i.net e.0) e.1 ≡ None
    past = subst (λ c. slice_get (links_into i.net e.0) c ≡ None) (turns.choice (setup_of i) (losses i) w e step next) x.acted.past

    next-is : next_of feed ≡ option_map packet_of (slice_get (frames_for (setup_of i) (actor_of i.net e.0)) (taken ac (history w e.0)))
    next-is = by_actor (actor_of i.net e.0) refl
      where
        none : frames_for (setup_of i) (actor_of i.net e.0) ≡ [] → next_of feed ≡ option_map packet_of (slice_get (frames_for (setup_of i) (actor_of i.net e.0)) (taken ac (history w e.0)))
        none z = ap (λ fr. slice_get fr feed.sent) ((f.feed e.0 here).frames ∙ ap (map packet_of) z) ∙ sym (ap (λ fr. option_map packet_of (slice_get fr (taken ac (history w e.0)))) z)

        by_actor : (y : ActorId) → actor_of i.net e.0 ≡ y → next_of feed ≡ option_map packet_of (slice_get (frames_for (setup_of i) (actor_of i.net e.0)) (taken ac (history w e.0)))
        by_actor Observer q = none (ap (frames_for (setup_of i)) q)
        by_actor (Control d) q = none (ap (frames_for (setup_of i)) q)
        by_actor (OfUnit j) q = none (ap (frames_for (setup_of i)) q)
        by_actor (OfHost h) q = ap (λ fr. slice_get fr feed.sent) (f.feed e.0 here).frames ∙ ap (slice_get (map packet_of (frames_for (setup_of i) (actor_of i.net e.0)))) ((f.feed e.0 here).sent h q)
            ∙ got-map packet_of (frames_for (setup_of i) (actor_of i.net e.0)) (taken ac (history w e.0))

    act-shows : (o : ℕ) → bears (link_of i.net o).sort ≡ true → shown o step.puts ≡ sent_by i.net e.0 o injects
    act-shows o b = acted-shown (setup_of i) o b x.acted.floor e.0 (actor_of i.net e.0) (history w e.0) (step.choice - ac) step.puts x.acted.puts ∙ ap (λ z. sent_by i.net e.0 o (injected z)) (sym next-is)

    act-half : (l : ℕ) → l < length i.net.links → bears (link_of i.net l).sort ≡ true → Half l (lane_at lanes l)
    act-half l link b = by_move (moved (setup_of i) (losses i) l link w e f.sized)
      where
        by_move : Next (setup_of i) (losses i) l link w e ⊎ Other (setup_of i) (losses i) l link w e → Half l (lane_at lanes l)
        by_move (inl y) = let both : None ≡ Some l = sym past ∙ y.into in absurd cc
        by_move (inr y) = half-same f.fifo_run l (lane_at lanes l) link (f.lane l link b) y.same

    host-acts : (h : ℕ) (j : ℕ) (ps : List Put) → action (setup_of i) x.acted.floor e.0 (OfHost h) (history w e.0) j ≡ Some ps
        → (j ≡ 0) × ((bytes : List ℕ) × (slice_get (frames_of (setup_of i) h) (taken ac (history w e.0)) ≡ Some bytes))
    host-acts h zero ps p = of_frame (slice_get (frames_of (setup_of i) h) (taken ac (history w e.0))) refl p
      where
        of_frame : (o : Option (List ℕ)) → slice_get (frames_of (setup_of i) h) (taken ac (history w e.0)) ≡ o → option_map (λ bytes. send_all (HostMsg bytes) (links_out i.net e.0 FromHost)) o ≡ Some ps
            → (◌≡◌ {A = ℕ} 0 0) × ((bytes : List ℕ) × (slice_get (frames_of (setup_of i) h) (taken ac (history w e.0)) ≡ Some bytes))
        of_frame None q r = absurd cc
        of_frame (Some bytes) q r = (refl, (bytes, q))
    host-acts h (suc j) ps p = absurd cc

    own-feed : FeedIs (setup_of i) v e.0 (after_next feed)
    own-feed = record { frames = (f.feed e.0 here).frames; sent = sent }
      where
        sent : (h : ℕ) → actor_of i.net e.0 ≡ OfHost h → more_sent feed.sent (next_of feed) ≡ taken ac (history v e.0)
        sent h q =
            let a = host-acts h (step.choice - ac) step.puts (subst (λ y. action (setup_of i) x.acted.floor e.0 y (history w e.0) (step.choice - ac) ≡ Some step.puts) q x.acted.puts) in
            let least = none-past (links_into i.net e.0) step.choice x.acted.past in
            let one : step.choice ≡ ac = omega (arith, least, a.0) in
            let some : next_of feed ≡ Some (packet_of a.1.0) = next-is ∙ ap (λ y. option_map packet_of (slice_get (frames_for (setup_of i) y) (taken ac (history w e.0)))) q ∙ ap (option_map packet_of) a.1.1 in
            let more : more_sent feed.sent (next_of feed) ≡ feed.sent + 1 = ap (more_sent feed.sent) some in
            omega (arith, more, (f.feed e.0 here).sent h q, ap (taken ac) (grows f.sized).same, turns.counted ac step (history w e.0) one)

    act-feed : (a : ℕ) → a < length i.net.actors → FeedIs (setup_of i) v a (feed_at after-feeds a)
    act-feed a h = by_tells (eqb_tells a e.0)
      where
        by_tells : ((nat_eq a e.0 ≡ true) × (a ≡ e.0)) ⊎ ((nat_eq a e.0 ≡ false) × (a ≡ e.0 → ⊥)) → FeedIs (setup_of i) v a (feed_at after-feeds a)
        by_tells (inl y) = subst (λ a. FeedIs (setup_of i) v a (feed_at after-feeds a)) (sym y.1)
            (subst (FeedIs (setup_of i) v e.0) (sym (get_or-set_same feeds e.0 (after_next feed) no_feed (omega (arith, here, f.feeds_each)))) own-feed)
        by_tells (inr y) = subst (FeedIs (setup_of i) v a) (sym (get_or-set_other feeds e.0 a (after_next feed) no_feed y.1))
            (record { frames = (f.feed a h).frames; sent = λ g q. (f.feed a h).sent g q ∙ ap (taken (action_choice i.net a)) (sym ((grows f.sized).other a y.1)) })

    act-follows : AreFew (send_by i.net n e.0 injects lanes) → length (send_by i.net n e.0 injects lanes) ≡ length i.net.links
        → Follows i v (putters_after i.net (losses i) w v n putters) (send_by i.net n e.0 injects lanes) after-feeds
    act-follows few each = record {
      fifo_run = turns.goes_on (setup_of i) (losses i) w e f.fifo_run;
      sized = sized-turn (setup_of i) (losses i) w e f.sized;
      lanes_each = each;
      feeds_each = length-set feeds e.0 (after_next feed) ∙ f.feeds_each;
      lane = λ l link b. lane-kept f.sized injects act-shows l lanes (omega (arith, link, f.lanes_each)) b (act-half l link b) (few l (new_lane None) (omega (arith, link, each)));
      feed = act-feed;
    }

    act-counts : count_by i.net n e.0 (Some step) ≡ []
    act-counts = ap (λ o. cond (is_unit (actor_of i.net e.0)) (count_of (unit_place i.net e.0) n (packet_in o)) []) x.acted.taken ∙ by_bool (is_unit (actor_of i.net e.0))
      where
        by_bool : (b : Bool) → ◌≡◌ {A = List Counted} (cond b [] []) []
        by_bool true = refl
        by_bool false = refl

  -- Any entry.

  abbrev pub link : Option ℕ
  link = slice_get (links_into i.net e.0) e.1

  pub record Kept (lanes : List Lane) (feeds : List Feed) : Type 0 where
    pub follows : Follows i v (putters_after i.net (losses i) w v n putters) (lanes_after i.net n e.0 link lanes feeds) (feeds_after e.0 link feeds)
    pub pairs : pair_by i.net w n putters e link (next_step (setup_of i) (losses i) w e) ≡ pairs_told i.net n link lanes
    pub counted : count_by i.net n e.0 (next_step (setup_of i) (losses i) w e) ≡ counts_told i.net n e.0 link lanes

  abbrev Led : List Lane → List Feed → Option ℕ → Type 0
  Led lanes feeds o = Follows i v (putters_after i.net (losses i) w v n putters) (lanes_after i.net n e.0 o lanes feeds) (feeds_after e.0 o feeds)

  pub kept : (lanes : List Lane) (feeds : List Feed) → Follows i w putters lanes feeds → AreFew (lanes_after i.net n e.0 link lanes feeds) → length (lanes_after i.net n e.0 link lanes feeds) ≡ length i.net.links
      → Kept lanes feeds
  kept lanes feeds f few each = by_view (turns.view (setup_of i) (losses i) w e step next)
    where
      by_view : Takes (setup_of i) (losses i) w e.0 step ⊎ Acts (setup_of i) w e.0 step → Kept lanes feeds
      by_view (inl t) = let q = into lanes feeds f t in record {
        follows = subst (Led lanes feeds) (sym q) (take-follows lanes feeds f t (subst (λ o. AreFew (lanes_after i.net n e.0 o lanes feeds)) q few) (subst (λ o. length (lanes_after i.net n e.0 o lanes feeds) ≡ length i.net.links) q each));
        pairs = ap (pair_by i.net w n putters e link) next ∙ ap (λ o. pair_by i.net w n putters e o (Some step)) q ∙ take-pairs lanes feeds f t ∙ sym (ap (λ o. pairs_told i.net n o lanes) q);
        counted = ap (count_by i.net n e.0) next ∙ take-counts lanes feeds f t ∙ sym (ap (λ o. counts_told i.net n e.0 o lanes) q);
      }
      by_view (inr x) = let q = past lanes feeds f x in record {
        follows = subst (Led lanes feeds) (sym q) (act-follows lanes feeds f x (subst (λ o. AreFew (lanes_after i.net n e.0 o lanes feeds)) q few) (subst (λ o. length (lanes_after i.net n e.0 o lanes feeds) ≡ length i.net.links) q each));
        pairs = ap (pair_by i.net w n putters e link) next ∙ ap (λ o. pair_by i.net w n putters e o (Some step)) q ∙ sym (ap (λ o. pairs_told i.net n o lanes) q);
        counted = ap (count_by i.net n e.0) next ∙ act-counts lanes feeds f x ∙ sym (ap (λ o. counts_told i.net n e.0 o lanes) q);
      }
