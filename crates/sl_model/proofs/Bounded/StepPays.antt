-- A step of a unit or of a control plane pays for what it puts.
use Rattle.std.proofs.Common.{◌*◌, ◌+◌, ◌++◌, ◌-◌, ◌<◌, ◌==◌, List, None, Option, Some, ap, eq-eqb, inl, inr, length, refl, subst, suc, sym, ℕ, ◌∙◌, ◌∷◌, ◌≡◌, ◌≤◌, arith, [], not, zero}
use Rattle.std.specs.Prelude.{Bool, false, nat_eq, slice_get, true, unwrap_or, ◌⊎◌, if◌then◌else◌, flat_map, ◌||◌}
use Rattle.std.proofs.lemmas.Bool.{cases_lt}
use Rattle.std.proofs.lemmas.Bool.Decides.{eqb_tells}
use Rattle.std.proofs.lemmas.Option.{get_or_from_slice_get, slice_get_within}
use Rattle.sl_layout.specs.Net.{Net, actor_of, choices_of, data_channels, link_at, link_of, links_into, links_out, same_sort, sort_number, action_choice, unit_place}
use Rattle.sl_parts.specs.Parts.{below}
use Rattle.sl_net.specs.Wired.{receives, unit_receives}
use Rattle.sl_layout.specs.declared.actor.ActorId.TheVariants.{Unit as OfUnit, Control}
use Rattle.sl_layout.specs.declared.actor.Side.{Side}
use Rattle.sl_layout.specs.declared.actor.Side.TheVariants.{Egress, Ingress}
use Rattle.sl_layout.specs.declared.actor.Sort.{Sort}
use Rattle.sl_layout.specs.declared.actor.Sort.TheVariants.{Begin, Cable, Crossbar, Dump, Init, Notice, Done}
use Rattle.sl_layout.specs.declared.actor.UnitId.{UnitId}
use Rattle.sl_model.specs.Fit.{fits, fits_link}
use Rattle.sl_model.specs.History.{History, Losses, World, history, last, stamp_of}
use Rattle.sl_model.specs.Puts.{dump_puts, id_after, is_own_port, notice_puts, puts_of, send_all, side_puts, unit_puts, action, control_puts, dump_answer, poll_puts, send}
use Rattle.sl_model.specs.Setup.{Setup}
use Rattle.sl_parts.specs.Lists.{Each, Member}
use Rattle.sl_parts.proofs.Lists.{each-of, member-filter, member-from, member-left, member-right}
use Rattle.sl_model.specs.Words.{weigh}
use Rattle.sl_model.specs.World.{taking, acting, floor_for}
use Rattle.sl_model.specs.declared.message.Message.{Message}
use Rattle.sl_model.specs.declared.message.Message.TheVariants.{Begin as BeginMsg, Data, Done as DoneMsg, Dump as DumpMsg, Host as HostMsg, Init as InitMsg, Notice as NoticeMsg, Poll as PollMsg, Probe as ProbeMsg}
use Rattle.sl_model.specs.declared.message.Put.{Put}
use Rattle.sl_model.specs.declared.message.Step.{Step}
use Rattle.sl_model.specs.Potential.{channels, credit, goes_on, init_price, is_cable, own_at, own_side, price, probe_price, again_credit, allowance}
use Rattle.sl_net.specs.Ways.{IsOut, HasWays}
use Rattle.sl_model.proofs.Finishing.NetWiring.{Wiring}
use Rattle.sl_model.proofs.Finishing.Phase.{loudness, no-action, side-quiet, takes-fit}
use Rattle.sl_model.proofs.Bounded.Prices.{Pays, sends-weigh, IsPriced, frame-pays, packet-pays, once}
use Rattle.sl_model.proofs.Worlds.ReachedWorlds.{ActsBy, Reached, StepOf, TakesBy, fifo_run-reached, step-cases}
use Rattle.sl_model.proofs.Lists.Weighed.{weigh-append, weigh-below, weigh-falls}
use Rattle.sl_model.proofs.Bounded.Flights.{puts_weight}
use Rattle.sl_layout.specs.Serving.{ServedUnit, served}
use Rattle.sl_model.specs.Knowledge.{asks, is_again, is_outstanding, is_swept, puts_on}
use Rattle.sl_model.proofs.Cuts.Bounds.{within}
use Rattle.sl_model.proofs.Finishing.Idle.{none-past}
use Rattle.sl_model.proofs.Cuts.Collected.{stamped-sort}
use Rattle.sl_model.proofs.Worlds.Stamps.{guard-holds}

-- What a unit puts of a message costs less than the message did.

cable-weigh : (net : Net) (u k : ℕ) (ls : List ℕ) → Each (IsOut net u Cable) ls → weigh (λ l. price net l (ProbeMsg k)) ls ≡ length ls
cable-weigh net u k [] h = refl
cable-weigh net u k (l ∷ ls) h = let p : probe_price net l ≡ 1 = ap (λ s. if is_cable s then 1 else suc (if goes_on net l then length (links_out net (link_of net l).to Cable) else 0)) h.0.sort in
    omega (arith, p, cable-weigh net u k ls h.1)

probe-pays : (net : Net) → HasWays net → IsPriced net → (u k l s : ℕ) (i : UnitId) (side : Side) → i.side ≡ side → actor_of net u ≡ OfUnit i → (link_of net l).to ≡ u → suc (puts_weight (price net) (side_puts net u i side k l (ProbeMsg s))) ≤ probe_price net l
probe-pays net ways g u k l s i Ingress q a t = by_sort (is_cable (link_of net l).sort)
  where
    by_sort : (b : Bool) → 1 ≤ (if b then 1 else suc (if goes_on net l then length (links_out net (link_of net l).to Cable) else 0))
    by_sort true = omega arith
    by_sort false = omega arith
probe-pays net ways g u k l s i Egress q a t = by_own (is_own_port net i.device i.port l) refl
  where
    on : goes_on net l ≡ is_own_port net i.device i.port l
    on = ap (λ b. own_at net l (actor_of net b)) t ∙ ap (own_at net l) a ∙ ap (own_side net l i) q

    is-cable : (t : Sort) → is_cable t ≡ true → t ≡ Cable
    is-cable Cable h = refl
    is-cable _ h = absurd cc

    at_least : (b : Bool) → 1 ≤ (if b then 1 else suc (if goes_on net l then length (links_out net (link_of net l).to Cable) else 0))
    at_least true = omega arith
    at_least false = omega arith

    by_cable : is_own_port net i.device i.port l ≡ true → (b : Bool) → is_cable (link_of net l).sort ≡ b → suc (length (links_out net u Cable)) ≤ (if b then 1 else suc (if goes_on net l then length (links_out net (link_of net l).to Cable) else 0))
    by_cable o true c = absurd (let x : goes_on net l ≡ false = g.cable_in l (is-cable (link_of net l).sort c) in let y : true ≡ false = sym o ∙ sym on ∙ x in cc)
    by_cable o false c = let y : (if goes_on net l then length (links_out net (link_of net l).to Cable) else 0) ≡ length (links_out net u Cable) = ap (λ b. if b then length (links_out net (link_of net l).to Cable) else 0) (on ∙ o) ∙ ap (λ b. length (links_out net b Cable)) t in omega (arith, y)

    by_own : (b : Bool) → is_own_port net i.device i.port l ≡ b → suc (puts_weight (price net) (if b then send_all (ProbeMsg k) (links_out net u Cable) else [])) ≤ probe_price net l
    by_own false o = at_least (is_cable (link_of net l).sort)
    by_own true o = omega (arith, sends-weigh (price net) (ProbeMsg k) (links_out net u Cable), cable-weigh net u k (links_out net u Cable) (ways.outs u Cable), by_cable o (is_cable (link_of net l).sort) refl)

init-pays : (net : Net) (u k l s : ℕ) (i : UnitId) (side : Side) → (link_of net l).to ≡ u → suc (puts_weight (price net) (side_puts net u i side k l (InitMsg s))) ≤ init_price net l
init-pays net u k l s i Egress t = omega arith
init-pays net u k l s i Ingress t = omega (arith, sends-weigh (price net) (ProbeMsg k) (links_out net u Crossbar), ap (λ b. weigh (probe_price net) (links_out net b Crossbar)) t)

-- its way on and its dump
pub way-pays : (net : Net) → HasWays net → IsPriced net → (u k l n : ℕ) (i : UnitId) (m : Message) → actor_of net u ≡ OfUnit i → (link_of net l).to ≡ u → fits_link net l m ≡ true → ((k : ℕ) → m ≡ BeginMsg k → ⊥)
    → suc (puts_weight (price net) (side_puts net u i i.side k l m) + puts_weight (price net) (dump_puts net u n m)) ≤ price net l m
way-pays net ways g u k l n i m a t fit no_begin = by_message m fit no_begin
  where
    way : Message → ℕ
    way m = puts_weight (price net) (side_puts net u i i.side k l m)

    silent : (m : Message) → (side : Side) → loudness m ≡ 0 → puts_weight (price net) (side_puts net u i side k l m) ≡ 0
    silent m side h = ap (puts_weight (price net)) (side-quiet net u i side k l m h)

    poll_weigh : puts_weight (price net) (send_all (DumpMsg n) (links_out net u Dump)) ≤ 2
    poll_weigh = let w = sends-weigh (price net) (DumpMsg n) (links_out net u Dump) in let c = twos (links_out net u Dump) in omega (arith, w, c, g.one_dump u i a)
      where
        twos : (ls : List ℕ) → weigh (λ l. price net l (DumpMsg n)) ls ≡ length ls + length ls
        twos [] = refl
        twos (l ∷ ls) = omega (arith, twos ls)

    by_message : (m : Message) → fits_link net l m ≡ true → ((k : ℕ) → m ≡ BeginMsg k → ⊥) → suc (puts_weight (price net) (side_puts net u i i.side k l m) + puts_weight (price net) (dump_puts net u n m)) ≤ price net l m
    by_message (HostMsg b) h e = omega (arith, g.carries u k l i (HostMsg b) a t refl)
    by_message (Data c p) h e = omega (arith, g.carries u k l i (Data c p) a t refl)
    by_message (ProbeMsg c) h e = omega (arith, probe-pays net ways g u k l c i i.side refl a t)
    by_message (InitMsg c) h e = omega (arith, init-pays net u k l c i i.side t)
    by_message PollMsg h e = omega (arith, silent PollMsg i.side refl, poll_weigh)
    by_message NoticeMsg h e = omega (arith, silent NoticeMsg i.side refl)
    by_message (DumpMsg c) h e = omega (arith, silent (DumpMsg c) i.side refl)
    by_message (BeginMsg c) h e = absurd (e c refl)
    by_message (DoneMsg c d) h e = omega (arith, silent (DoneMsg c d) i.side refl)

-- Channels: a stamp is taken by one, and nothing else is.

choice-in : (net : Net) (u c l : ℕ) (t : Sort) → slice_get (links_into net u) c ≡ Some l → (link_of net l).sort ≡ t → Member c (choices_of net u t)
choice-in net u c l t h q = let e : link_at net u c ≡ l = get_or_from_slice_get (links_into net u) c l 0 h in let p : c < length (links_into net u) = slice_get_within (links_into net u) c l h in
    member-filter (λ c. same_sort (link_of net (link_at net u c)).sort t) c (below (length (links_into net u))) (member-from c 0 (length (links_into net u)) (omega arith) (omega (arith, p)))
    (eq-eqb (sort_number (link_of net (link_at net u c)).sort) (sort_number t) (ap (λ l. sort_number (link_of net l).sort) e ∙ ap sort_number q))

channel-in : (net : Net) (u c l : ℕ) → slice_get (links_into net u) c ≡ Some l → ((link_of net l).sort ≡ Cable) ⊎ (((link_of net l).sort ≡ Crossbar) ⊎ ((link_of net l).sort ≡ Init)) → Member c (channels net u)
channel-in net u c l h (inl q) = member-left c (data_channels net u) (choices_of net u Init) (member-left c (choices_of net u Cable) (choices_of net u Crossbar) (choice-in net u c l Cable h q))
channel-in net u c l h (inr (inl q)) = member-left c (data_channels net u) (choices_of net u Init) (member-right c (choices_of net u Cable) (choices_of net u Crossbar) (choice-in net u c l Crossbar h q))
channel-in net u c l h (inr (inr q)) = member-right c (data_channels net u) (choices_of net u Init) (choice-in net u c l Init h q)

-- What it is owed to notice falls by a notice where the last stamp changed.
notices-pay : (net : Net) → IsPriced net → (count u c l : ℕ) (i : UnitId) (m : Message) (ps : List Put) (h : History) → actor_of net u ≡ OfUnit i → slice_get (links_into net u) c ≡ Some l → fits_link net l m ≡ true
    → ((k : ℕ) → stamp_of m ≡ Some k → (last c h ≤ k) × (k ≤ count))
    → weigh (λ x. 4 * (count - last x (taking c m ps ∷ h))) (channels net u) + puts_weight (price net) (notice_puts net u (last c h) (stamp_of m)) ≤ weigh (λ x. 4 * (count - last x h)) (channels net u)
notices-pay net g count u c l i m ps h a at fit rises = by_stamp (stamp_of m) refl
  where
    Goal : Option ℕ → Type 0
    Goal o = weigh (λ x. 4 * (count - (if c == x then unwrap_or o (last x h) else last x h))) (channels net u) + puts_weight (price net) (notice_puts net u (last c h) o) ≤ weigh (λ x. 4 * (count - last x h)) (channels net u)

    stay : (k : ℕ) (x : ℕ) → last c h ≤ k → 4 * (count - (if c == x then k else last x h)) ≤ 4 * (count - last x h)
    stay k x r = by_tells (eqb_tells c x)
      where
        by_tells : ((nat_eq c x ≡ true) × (c ≡ x)) ⊎ ((nat_eq c x ≡ false) × (c ≡ x → ⊥)) → 4 * (count - (if c == x then k else last x h)) ≤ 4 * (count - last x h)
        by_tells (inl q) = let e : (if c == x then k else last x h) ≡ k = ap (λ b. if b then k else last x h) q.0 in omega (arith, e, r, ap (λ y. last y h) q.1)
        by_tells (inr q) = let e : (if c == x then k else last x h) ≡ last x h = ap (λ b. if b then k else last x h) q.0 in omega (arith, e)

    same : (b : Bool) (x : ℕ) → 4 * (count - (if b then last x h else last x h)) ≤ 4 * (count - last x h)
    same true x = omega arith
    same false x = omega arith

    fours : (ls : List ℕ) → weigh (λ l. price net l NoticeMsg) ls ≡ 4 * length ls
    fours [] = refl
    fours (l ∷ ls) = omega (arith, fours ls)

    rest : (k : ℕ) → last c h ≤ k → weigh (λ x. 4 * (count - (if c == x then k else last x h))) (channels net u) ≤ weigh (λ x. 4 * (count - last x h)) (channels net u)
    rest k r = weigh-below (λ x. 4 * (count - (if c == x then k else last x h))) (λ x. 4 * (count - last x h)) (channels net u) (each-of (λ x. 4 * (count - (if c == x then k else last x h)) ≤ 4 * (count - last x h)) (channels net u) (λ x m. stay k x r))

    falls : (k : ℕ) → last c h < k → k ≤ count → stamp_of m ≡ Some k → weigh (λ x. 4 * (count - (if c == x then k else last x h))) (channels net u) + 4 ≤ weigh (λ x. 4 * (count - last x h)) (channels net u)
    falls k r b q = weigh-falls (λ x. 4 * (count - (if c == x then k else last x h))) (λ x. 4 * (count - last x h)) 4 (channels net u) c
        (each-of (λ x. 4 * (count - (if c == x then k else last x h)) ≤ 4 * (count - last x h)) (channels net u) (λ x m. stay k x (omega (arith, r)))) (channel-in net u c l at (stamped-sort (link_of net l).sort m k fit q))
        (let e : (if c == c then k else last c h) ≡ k = ap (λ b. if b then k else last c h) (eq-eqb c c refl) in omega (arith, e, r, b))

    by_before : (k : ℕ) → stamp_of m ≡ Some k → ((nat_eq (last c h) k ≡ true) × (last c h ≡ k)) ⊎ ((nat_eq (last c h) k ≡ false) × (last c h ≡ k → ⊥)) → Goal (Some k)
    by_before k q (inl e) = subst (λ b. weigh (λ x. 4 * (count - (if c == x then k else last x h))) (channels net u) + puts_weight (price net) (if b then [] else send_all NoticeMsg (links_out net u Notice)) ≤ weigh (λ x. 4 * (count - last x h)) (channels net u)) (sym e.0)
        (omega (arith, rest k (omega (arith, e.1))))
    by_before k q (inr e) = subst (λ b. weigh (λ x. 4 * (count - (if c == x then k else last x h))) (channels net u) + puts_weight (price net) (if b then [] else send_all NoticeMsg (links_out net u Notice)) ≤ weigh (λ x. 4 * (count - last x h)) (channels net u)) (sym e.0)
        (omega (arith, falls k (less (cases_lt (last c h) k)) (rises k q).1 q, sends-weigh (price net) NoticeMsg (links_out net u Notice), fours (links_out net u Notice), g.one_notice u i a))
      where
        less : ((last c h < k) ⊎ (k ≤ last c h)) → last c h < k
        less (inl y) = y
        less (inr y) = absurd (e.1 (omega (arith, y, (rises k q).0)))

    by_stamp : (o : Option ℕ) → stamp_of m ≡ o → Goal (stamp_of m)
    by_stamp None q = subst Goal (sym q) (omega (
      arith,
      weigh-below (λ x. 4 * (count - (if c == x then last x h else last x h))) (λ x. 4 * (count - last x h)) (channels net u)
          (each-of (λ x. 4 * (count - (if c == x then last x h else last x h)) ≤ 4 * (count - last x h)) (channels net u) (λ x m. same (c == x) x)),
    ))
    by_stamp (Some k) q = subst Goal (sym q) (by_before k q (eqb_tells (last c h) k))

-- The unit's step pays. The last premise is part of the window law.

no-begins : (side : Side) (t : Sort) (k : ℕ) → fits t (BeginMsg k) ≡ true → unit_receives side t ≡ true → ⊥
no-begins Ingress Begin k f g = cc
no-begins Egress Begin k f g = cc
no-begins side _ k f g = cc

pub unit-pays : (s : Setup) (lost : Losses) → Wiring s.net → IsPriced s.net → (w : World) → Reached s lost w → (u : ℕ) (i : UnitId) → actor_of s.net u ≡ OfUnit i → (c : ℕ) (step : Step) → StepOf s lost w u c step
    → ((t : TakesBy s lost w u c step) (k : ℕ) → stamp_of t.message ≡ Some k → (last c (history w u) ≤ k) × (k ≤ s.count)) → Pays s lost w u c step 0
unit-pays s lost g p w r u i a c step n rises = by_case (step-cases s lost w u c step n)
  where
    h : History
    h = history w u

    by_case : TakesBy s lost w u c step ⊎ ActsBy s w u c step → Pays s lost w u c step 0
    by_case (inr t) = absurd (no-action s w u i c step a t)
    by_case (inl t) = let l = t.link in let m = t.message in let x = g.wired.ways.into u c l t.at in let fit = takes-fit s lost w u c step (fifo_run-reached s lost w r) t in
        let k = id_after m h in
        let rc : unit_receives i.side (link_of s.net l).sort ≡ true = subst (λ y. receives y (link_of s.net l).sort ≡ true) (ap (actor_of s.net) x.to ∙ a) (g.wired.receiver l x.is_link) in
        let way = way-pays s.net g.wired.ways p u k l (suc (length h)) i m a x.to fit (λ j e. no-begins i.side (link_of s.net l).sort j (ap (fits (link_of s.net l).sort) (sym e) ∙ fit) rc) in
        let ps = unit_puts s.net u i h c l m in
        let note = notices-pay s.net p s.count u c l i m ps h a t.at fit (rises t) in
        let e : step ≡ taking c m ps = t.is ∙ ap (λ b. taking c m (puts_of s u b h c l m)) a in
        let w1 = weigh-append (λ q. price s.net q.link q.message) (side_puts s.net u i i.side k l m) (notice_puts s.net u (last c h) (stamp_of m) ++ dump_puts s.net u (suc (length h)) m) in
        let w2 = weigh-append (λ q. price s.net q.link q.message) (notice_puts s.net u (last c h) (stamp_of m)) (dump_puts s.net u (suc (length h)) m) in
        let goal : suc (credit s u (OfUnit i) (taking c m ps ∷ h) + puts_weight (price s.net) ps) ≤ credit s u (OfUnit i) h + price s.net l m + 0 = omega (arith, way, note, w1, w2) in
        record {
          took = price s.net l m;
          within = λ q. inr (t, refl);
          pays = subst (λ b. suc (credit s u b (step ∷ h) + puts_weight (price s.net) step.puts) ≤ credit s u b h + price s.net l m + 0) (sym a)
              (subst (λ y. suc (credit s u (OfUnit i) (y ∷ h) + puts_weight (price s.net) y.puts) ≤ credit s u (OfUnit i) h + price s.net l m + 0) (sym e) goal);
        }

-- A control plane's step pays for what it puts.

-- Sums over what a control plane serves.

puts-append : (net : Net) (xs ys : List Put) → puts_weight (price net) (xs ++ ys) ≡ puts_weight (price net) xs + puts_weight (price net) ys
puts-append net xs ys = weigh-append (λ p. price net p.link p.message) xs ys

flat-pays : (net : Net) (new old more : ServedUnit → ℕ) (g : ServedUnit → List Put) (vs : List ServedUnit) → Each (λ v. new v + puts_weight (price net) (g v) ≤ old v + more v) vs
    → weigh new vs + puts_weight (price net) (flat_map g vs) ≤ weigh old vs + weigh more vs
flat-pays net new old more g [] h = omega arith
flat-pays net new old more g (v ∷ vs) h = omega (arith, h.0, flat-pays net new old more g vs h.1, puts-append net (g v) (flat_map g vs))

on-append : (l : ℕ) (xs ys : List Put) → puts_on l (xs ++ ys) ≡ (puts_on l xs || puts_on l ys)
on-append l [] ys = refl
on-append l (x ∷ xs) ys = ap (λ b. (x.link == l) || b) (on-append l xs ys) ∙ sym (or_assoc (x.link == l) (puts_on l xs) (puts_on l ys))
  where
    or_assoc : (a b c : Bool) → ((a || b) || c) ≡ (a || (b || c))
    or_assoc true b c = refl
    or_assoc false b c = refl

or-true : (b : Bool) → (b || true) ≡ true
or-true true = refl
or-true false = refl

on-flat : (l : ℕ) (g : ServedUnit → List Put) (vs : List ServedUnit) (v : ServedUnit) → Member v vs → puts_on l (g v) ≡ true → puts_on l (flat_map g vs) ≡ true
on-flat l g [] v m q = absurd m
on-flat l g (x ∷ vs) v (inl e) q = on-append l (g x) (flat_map g vs) ∙ ap (λ b. b || puts_on l (flat_map g vs)) (ap (λ y. puts_on l (g y)) (sym e) ∙ q)
on-flat l g (x ∷ vs) v (inr m) q = on-append l (g x) (flat_map g vs) ∙ ap (λ b. puts_on l (g x) || b) (on-flat l g vs v m q) ∙ or-true (puts_on l (g x))

-- What a control plane owes to a unit after a step: nothing where it put a poll to it.

abbrev three_if : Bool → ℕ
three_if b = if b then 3 else 0

after-poll : (sweep : ℕ) (v : ServedUnit) (step : Step) (h : History) → puts_on v.poll step.puts ≡ true → three_if (is_again sweep v (step ∷ h)) ≡ 0
after-poll sweep v step h q = ap (λ b. three_if (if b then false else asks sweep v step.choice step.taken || is_again sweep v h)) q

after-any : (b : Bool) → (if b then 3 else 0) ≤ 3
after-any true = omega arith
after-any false = omega arith

-- as before, where it asked for no poll
after-other : (sweep : ℕ) (v : ServedUnit) (step : Step) (h : History) → asks sweep v step.choice step.taken ≡ false → (if is_again sweep v (step ∷ h) then 3 else 0) ≤ (if is_again sweep v h then 3 else 0)
after-other sweep v step h q = subst (λ a. (if (if puts_on v.poll step.puts then false else a || is_again sweep v h) then 3 else 0) ≤ (if is_again sweep v h then 3 else 0)) (sym q) (by_puts (puts_on v.poll step.puts))
  where
    by_puts : (b : Bool) → (if (if b then false else is_again sweep v h) then 3 else 0) ≤ (if is_again sweep v h then 3 else 0)
    by_puts true = omega arith
    by_puts false = omega arith

poll-on : (v : ServedUnit) (h : History) → is_outstanding v h ≡ false → puts_on v.poll (poll_puts v h) ≡ true
poll-on v h o = ap (λ b. puts_on v.poll (if b then [] else send PollMsg v.poll ∷ [])) o ∙ ap (λ b. b || false) (eq-eqb v.poll v.poll refl)

poll-weight : (net : Net) (v : ServedUnit) (h : History) → is_outstanding v h ≡ false → puts_weight (price net) (poll_puts v h) ≡ 3
poll-weight net v h o = ap (λ b. puts_weight (price net) (if b then [] else send PollMsg v.poll ∷ [])) o

poll-none : (net : Net) (v : ServedUnit) (h : History) → is_outstanding v h ≡ true → puts_weight (price net) (poll_puts v h) ≡ 0
poll-none net v h o = ap (λ b. puts_weight (price net) (if b then [] else send PollMsg v.poll ∷ [])) o

-- a poll, or the duty of one, costs three
poll-pays : (net : Net) (sweep : ℕ) (v : ServedUnit) (step : Step) (h : History) → (is_outstanding v h ≡ false → puts_on v.poll step.puts ≡ true)
    → (if is_again sweep v (step ∷ h) then 3 else 0) + puts_weight (price net) (poll_puts v h) ≤ (if is_again sweep v h then 3 else 0) + 3
poll-pays net sweep v step h on = by_bool (is_outstanding v h) refl
  where
    by_bool : (b : Bool) → is_outstanding v h ≡ b → (if is_again sweep v (step ∷ h) then 3 else 0) + puts_weight (price net) (poll_puts v h) ≤ (if is_again sweep v h then 3 else 0) + 3
    by_bool true o = omega (arith, poll-none net v h o, after-any (is_again sweep v (step ∷ h)))
    by_bool false o = omega (arith, poll-weight net v h o, after-poll sweep v step h (on o))

ones : (net : Net) (u n : ℕ) (ls : List ℕ) → weigh (λ l. price net l (DoneMsg u n)) ls ≡ length ls
ones net u n [] = refl
ones net u n (l ∷ ls) = omega (arith, ones net u n ls)

-- an answer costs one beside the duty that it does
answer-pays : (net : Net) (a n : ℕ) (v : ServedUnit) (step : Step) (h : History) → length (links_out net a Done) ≤ 1 → asks (action_choice net a) v step.choice step.taken ≡ false
    → (is_again (action_choice net a) v h ≡ true → puts_on v.poll step.puts ≡ true)
    → (if is_again (action_choice net a) v (step ∷ h) then 3 else 0) + puts_weight (price net) (dump_answer net a h n v) ≤ (if is_again (action_choice net a) v h then 3 else 0) + 1
answer-pays net a n v step h one q on = omega (arith, split, sends-weigh (price net) (DoneMsg (unit_place net v.unit) n) (links_out net a Done), ones net (unit_place net v.unit) n (links_out net a Done), one, by_again (is_again (action_choice net a) v h) refl)
  where
    tail : List Put
    tail = if is_again (action_choice net a) v h then send PollMsg v.poll ∷ [] else []

    split : puts_weight (price net) (dump_answer net a h n v) ≡ puts_weight (price net) (send_all (DoneMsg (unit_place net v.unit) n) (links_out net a Done)) + puts_weight (price net) tail
    split = puts-append net (send_all (DoneMsg (unit_place net v.unit) n) (links_out net a Done)) tail

    by_again : (b : Bool) → is_again (action_choice net a) v h ≡ b → (if is_again (action_choice net a) v (step ∷ h) then 3 else 0) + puts_weight (price net) tail ≤ (if is_again (action_choice net a) v h then 3 else 0)
    by_again true e = let t : puts_weight (price net) tail ≡ 3 = ap (λ b. puts_weight (price net) (if b then send PollMsg v.poll ∷ [] else [])) e in let o : three_if (is_again (action_choice net a) v h) ≡ 3 = ap three_if e in
        omega (arith, t, o, after-poll (action_choice net a) v step h (on e))
    by_again false e = let t : puts_weight (price net) tail ≡ 0 = ap (λ b. puts_weight (price net) (if b then send PollMsg v.poll ∷ [] else [])) e in omega (arith, t, after-other (action_choice net a) v step h q)

-- Takes.

-- what a control plane owes to a unit, after a take that asks for no poll
calm : (net : Net) (a c : ℕ) (m : Message) (h : History) → ((v : ServedUnit) → asks (action_choice net a) v c (Some m) ≡ false) → (ps : List Put)
    → weigh (again_credit net a (taking c m ps ∷ h)) (served net a) ≤ weigh (again_credit net a h) (served net a)
calm net a c m h q ps = weigh-below (again_credit net a (taking c m ps ∷ h)) (again_credit net a h) (served net a)
    (each-of (λ v. again_credit net a (taking c m ps ∷ h) v ≤ again_credit net a h v) (served net a) (λ v k. after-other (action_choice net a) v (taking c m ps) h (q v)))

notice-take : (net : Net) (a c : ℕ) (h : History) → weigh (λ v. if c == v.notice then 3 else 0) (served net a) ≤ 3
    → suc (weigh (again_credit net a (taking c NoticeMsg (control_puts net a h c NoticeMsg) ∷ h)) (served net a) + puts_weight (price net) (control_puts net a h c NoticeMsg)) ≤ weigh (again_credit net a h) (served net a) + 4
notice-take net a c h once = omega (
  arith,
  once,
  flat-pays net (again_credit net a (taking c NoticeMsg ps ∷ h)) (again_credit net a h) (λ v. if c == v.notice then 3 else 0) (λ v. if c == v.notice then poll_puts v h else []) (served net a)
      (each-of (λ v. again_credit net a (taking c NoticeMsg ps ∷ h) v + puts_weight (price net) (if c == v.notice then poll_puts v h else []) ≤ again_credit net a h v + (if c == v.notice then 3 else 0)) (served net a) one),
)
  where
    ps : List Put
    ps = control_puts net a h c NoticeMsg

    one : (v : ServedUnit) → Member v (served net a) → again_credit net a (taking c NoticeMsg ps ∷ h) v + puts_weight (price net) (if c == v.notice then poll_puts v h else []) ≤ again_credit net a h v + (if c == v.notice then 3 else 0)
    one v i = by_bool (c == v.notice) refl
      where
        by_bool : (b : Bool) → (c == v.notice) ≡ b → again_credit net a (taking c NoticeMsg ps ∷ h) v + puts_weight (price net) (if b then poll_puts v h else []) ≤ again_credit net a h v + (if b then 3 else 0)
        by_bool true e = poll-pays net (action_choice net a) v (taking c NoticeMsg ps) h
            (λ o. on-flat v.poll (λ v. if c == v.notice then poll_puts v h else []) (served net a) v i (ap (λ b. puts_on v.poll (if b then poll_puts v h else [])) e ∙ poll-on v h o))
        by_bool false e = omega (arith, after-other (action_choice net a) v (taking c NoticeMsg ps) h e)

dump-take : (net : Net) (a c n : ℕ) (h : History) → weigh (λ v. if c == v.dump then 1 else 0) (served net a) ≤ 1 → ((v : ServedUnit) → Member v (served net a) → length (links_out net a Done) ≤ 1)
    → suc (weigh (again_credit net a (taking c (DumpMsg n) (control_puts net a h c (DumpMsg n)) ∷ h)) (served net a) + puts_weight (price net) (control_puts net a h c (DumpMsg n))) ≤ weigh (again_credit net a h) (served net a) + 2
dump-take net a c n h once done = omega (
  arith,
  once,
  flat-pays net (again_credit net a (taking c (DumpMsg n) ps ∷ h)) (again_credit net a h) (λ v. if c == v.dump then 1 else 0) (λ v. if c == v.dump then dump_answer net a h n v else []) (served net a)
      (each-of (λ v. again_credit net a (taking c (DumpMsg n) ps ∷ h) v + puts_weight (price net) (if c == v.dump then dump_answer net a h n v else []) ≤ again_credit net a h v + (if c == v.dump then 1 else 0)) (served net a) one),
)
  where
    ps : List Put
    ps = control_puts net a h c (DumpMsg n)

    answer-on : (v : ServedUnit) → is_again (action_choice net a) v h ≡ true → puts_on v.poll (dump_answer net a h n v) ≡ true
    answer-on v e = on-append v.poll (send_all (DoneMsg (unit_place net v.unit) n) (links_out net a Done)) (if is_again (action_choice net a) v h then send PollMsg v.poll ∷ [] else [])
        ∙ ap (λ b. puts_on v.poll (send_all (DoneMsg (unit_place net v.unit) n) (links_out net a Done)) || puts_on v.poll (if b then send PollMsg v.poll ∷ [] else [])) e
        ∙ ap (λ b. puts_on v.poll (send_all (DoneMsg (unit_place net v.unit) n) (links_out net a Done)) || (b || false)) (eq-eqb v.poll v.poll refl)
        ∙ or-true (puts_on v.poll (send_all (DoneMsg (unit_place net v.unit) n) (links_out net a Done)))

    one : (v : ServedUnit) → Member v (served net a) → again_credit net a (taking c (DumpMsg n) ps ∷ h) v + puts_weight (price net) (if c == v.dump then dump_answer net a h n v else []) ≤ again_credit net a h v + (if c == v.dump then 1 else 0)
    one v i = by_bool (c == v.dump) refl
      where
        by_bool : (b : Bool) → (c == v.dump) ≡ b → again_credit net a (taking c (DumpMsg n) ps ∷ h) v + puts_weight (price net) (if b then dump_answer net a h n v else []) ≤ again_credit net a h v + (if b then 1 else 0)
        by_bool true e = answer-pays net a n v (taking c (DumpMsg n) ps) h (done v i) refl
            (λ y. on-flat v.poll (λ v. if c == v.dump then dump_answer net a h n v else []) (served net a) v i (ap (λ b. puts_on v.poll (if b then dump_answer net a h n v else [])) e ∙ answer-on v y))
        by_bool false e = omega (arith, after-other (action_choice net a) v (taking c (DumpMsg n) ps) h refl)

pub price-pays : (net : Net) (l : ℕ) (m : Message) → 1 ≤ price net l m
price-pays net l (HostMsg b) = frame-pays net l b
price-pays net l (Data k p) = packet-pays net l p
price-pays net l (ProbeMsg k) = by_bool (is_cable (link_of net l).sort)
  where
    by_bool : (b : Bool) → 1 ≤ (if b then 1 else suc (if goes_on net l then length (links_out net (link_of net l).to Cable) else 0))
    by_bool true = omega arith
    by_bool false = omega arith
price-pays net l (InitMsg k) = omega arith
price-pays net l PollMsg = omega arith
price-pays net l NoticeMsg = omega arith
price-pays net l (DumpMsg n) = omega arith
price-pays net l (BeginMsg k) = omega arith
price-pays net l (DoneMsg u n) = omega arith

control-take : (net : Net) → IsPriced net → (a c l : ℕ) (m : Message) (h : History) → (link_of net l).to ≡ a
    → suc (weigh (again_credit net a (taking c m (control_puts net a h c m) ∷ h)) (served net a) + puts_weight (price net) (control_puts net a h c m)) ≤ weigh (again_credit net a h) (served net a) + price net l m
control-take net g a c l NoticeMsg h to = notice-take net a c h (g.notice_once a c)
control-take net g a c l (DumpMsg n) h to = dump-take net a c n h (g.dump_once a c) (g.one_done a)
control-take net g a c l (BeginMsg k) h to = omega (arith, calm net a c (BeginMsg k) h (λ v. refl) (control_puts net a h c (BeginMsg k)), sends-weigh (price net) (InitMsg k) (links_out net a Init), ap (λ b. weigh (init_price net) (links_out net b Init)) to)
control-take net g a c l (HostMsg b) h to = omega (arith, calm net a c (HostMsg b) h (λ v. refl) [], price-pays net l (HostMsg b))
control-take net g a c l (Data k p) h to = omega (arith, calm net a c (Data k p) h (λ v. refl) [], price-pays net l (Data k p))
control-take net g a c l (ProbeMsg k) h to = omega (arith, calm net a c (ProbeMsg k) h (λ v. refl) [], price-pays net l (ProbeMsg k))
control-take net g a c l (InitMsg k) h to = omega (arith, calm net a c (InitMsg k) h (λ v. refl) [])
control-take net g a c l PollMsg h to = omega (arith, calm net a c PollMsg h (λ v. refl) [])
control-take net g a c l (DoneMsg u n) h to = omega (arith, calm net a c (DoneMsg u n) h (λ v. refl) [])

-- A sweep: three for each unit and one for itself.
sweep-pays : (net : Net) (a c : ℕ) (h : History) → let ps = flat_map (λ v. poll_puts v h) (served net a) in
    weigh (again_credit net a (acting c ps ∷ h)) (served net a) + puts_weight (price net) ps ≤ weigh (again_credit net a h) (served net a) + 3 * length (served net a)
sweep-pays net a c h = let ps = flat_map (λ v. poll_puts v h) (served net a) in
    omega (
      arith,
      threes (served net a),
      flat-pays net (again_credit net a (acting c ps ∷ h)) (again_credit net a h) (λ v. 3) (λ v. poll_puts v h) (served net a)
          (each-of (λ v. again_credit net a (acting c ps ∷ h) v + puts_weight (price net) (poll_puts v h) ≤ again_credit net a h v + 3) (served net a)
          (λ v k. poll-pays net (action_choice net a) v (acting c ps) h (λ o. on-flat v.poll (λ v. poll_puts v h) (served net a) v k (poll-on v h o)))),
    )
  where
    threes : (vs : List ServedUnit) → weigh (λ v. 3) vs ≡ 3 * length vs
    threes [] = refl
    threes (v ∷ vs) = omega (arith, threes vs)

pub control-pays : (s : Setup) → HasWays s.net → (lost : Losses) → IsPriced s.net → (w : World) (a d : ℕ) → actor_of s.net a ≡ Control d → (c : ℕ) (step : Step) → StepOf s lost w a c step → Pays s lost w a c step (allowance s.net a (Control d) c)
control-pays s ways lost p w a d q c step n = by_case (step-cases s lost w a c step n)
  where
    h : History
    h = history w a

    Owes : Step → ℕ → ℕ → Type 0
    Owes y took gain = suc (credit s a (Control d) (y ∷ h) + puts_weight (price s.net) y.puts) ≤ credit s a (Control d) h + took + gain

    as_pays : (took gain : ℕ) → ((step.choice ≡ c) → (took ≡ 0) ⊎ ((t : TakesBy s lost w a c step) × (took ≡ price s.net t.link t.message))) → Owes step took gain → Pays s lost w a c step gain
    as_pays took gain within o = record {
      took = took;
      within = within;
      pays = subst (λ b. suc (credit s a b (step ∷ h) + puts_weight (price s.net) step.puts) ≤ credit s a b h + took + gain) (sym q) o;
    }

    by_action : (i : ℕ) (ps : List Put) → action s 0 a (Control d) h i ≡ Some ps → (i ≡ 0) × (flat_map (λ v. poll_puts v h) (served s.net a) ≡ ps)
    by_action zero ps k = (refl, (guard-holds (not (is_swept s.net a h)) (flat_map (λ v. poll_puts v h) (served s.net a)) ps k).1)
    by_action (suc i) ps k = absurd cc

    by_case : TakesBy s lost w a c step ⊎ ActsBy s w a c step → Pays s lost w a c step (allowance s.net a (Control d) c)
    by_case (inl t) = let l = t.link in let m = t.message in let x = ways.into a c l t.at in
        let e : step ≡ taking c m (control_puts s.net a h c m) = t.is ∙ ap (λ b. taking c m (puts_of s a b h c l m)) q in
        let lt : c < action_choice s.net a = slice_get_within (links_into s.net a) c l t.at in
        let k = control-take s.net p a c l m h x.to in
        subst (λ b. Pays s lost w a c step (if b then suc (3 * length (served s.net a)) else 0)) (sym (not-same c (action_choice s.net a) lt))
        (as_pays (price s.net l m) 0 (λ z. inr (t, refl)) (subst (λ y. Owes y (price s.net l m) 0) (sym e) (omega (arith, k))))
      where
        not-same : (x y : ℕ) → x < y → (x == y) ≡ false
        not-same x y lt = by_tells (eqb_tells x y)
          where
            by_tells : ((nat_eq x y ≡ true) × (x ≡ y)) ⊎ ((nat_eq x y ≡ false) × (x ≡ y → ⊥)) → (x == y) ≡ false
            by_tells (inl z) = absurd (omega (arith, lt, z.1))
            by_tells (inr z) = z.0
    by_case (inr t) = let b = by_action (c - action_choice s.net a) t.puts (subst (λ b. action s (floor_for s.net w b) a b h (c - action_choice s.net a) ≡ Some t.puts) q t.guard) in
        let e : step ≡ acting c (flat_map (λ v. poll_puts v h) (served s.net a)) = t.is ∙ ap (acting c) (sym b.1) in
        let z : c ≡ action_choice s.net a = omega (arith, b.0, none-past (links_into s.net a) c t.no_link) in
        subst (λ b. Pays s lost w a c step (if b then suc (3 * length (served s.net a)) else 0)) (sym (eq-eqb c (action_choice s.net a) z))
        (as_pays 0 (suc (3 * length (served s.net a))) (λ z. inl refl) (subst (λ y. Owes y 0 (suc (3 * length (served s.net a)))) (sym e) (omega (arith, sweep-pays s.net a c h))))
