-- The window law: what is known, what is on its way, and the bounds of all numbers; what is collected.
use Rattle.std.proofs.Common.{◌≡◌, ℕ, ◌+◌, ◌<◌, ◌≤◌, List, [], ◌∷◌, ◌++◌, length, refl, sym, ap, subst, ◌∙◌, Option, Some, None, arith, drop, suc, inl, inr}
use Rattle.std.specs.Prelude.{min, map, unwrap_or, slice_get, IsTrue, ◌⊎◌, cond, true, false, Bool, ◌==◌, if◌then◌else◌, nat_eq, nat_lt, filter}
use Rattle.std.specs.List.{fold}
use Rattle.sl_model.specs.declared.message.Message.{Message}
use Rattle.sl_layout.specs.declared.actor.Sort.{Sort}
use Rattle.sl_layout.specs.declared.actor.Sort.TheVariants.{Cable, Crossbar, Init, Poll, Dump, Begin}
use Rattle.sl_layout.specs.declared.actor.ActorId.TheVariants.{Unit as OfUnit}
use Rattle.sl_layout.specs.declared.actor.UnitId.{UnitId}
use Rattle.sl_layout.specs.Serving.{choice_from, serving, served}
use Rattle.sl_layout.specs.Net.{Net, link_of, links_into, links_out, actor_of, choices_of, choice_of, data_channels, units, unit_place, link_at, same_sort}
use Rattle.sl_net.specs.Wired.{Reports, IsWired}
use Rattle.sl_parts.specs.Lists.{Each, Member}
use Rattle.sl_parts.proofs.Lists.{each-map, each-imp, each-at, each-front, each-back, each-append, each-of, each-both-of, distinct-append, distinct-filter, distinct-from, member-left, member-right, Distinct}
use Rattle.sl_model.specs.Words.{Rises, numbers, listed, first_from, first_told, or_later}
use Rattle.sl_route.specs.Least.{least_in, least}
use Rattle.sl_model.specs.History.{History, World, Losses, history, stamp_of, begin_of, dump_of, done_of, id, heard, last, first, taken, takes, put}
use Rattle.sl_model.specs.Setup.{Setup}
use Rattle.sl_model.specs.Knowledge.{observer, told_of, dumped, known, issued, upto_of, floor_of, unit_floor, floor}
use Rattle.sl_model.specs.World.{Entry, world, sender, receiver, carried, run}
use Rattle.sl_model.specs.Made.{Fifo, IsFifoRun, Took, Acted, IsMade}
use Rattle.sl_model.specs.Matching.{IsDataChannel}
use Rattle.sl_model.specs.Fit.{is_stamped, stamp, fits, fits_link}
use Rattle.sl_model.specs.Window.{on_way, begun, known_counts, after_steps, IsFollowed, KnowsInOrder, StampsRise, IsBelow, IsInWindow, IsNear}
use Rattle.sl_net.specs.Ways.{IsOut, HasWays, IsChoice}
use Rattle.sl_net.proofs.Sorts.{chosen, choice-is, is-into, each-choice}
use Rattle.sl_model.proofs.Worlds.Numbers.{rises-le, rises-append, falls-first, never-falls, NeverFalls}
use Rattle.sl_model.proofs.Worlds.Stamps.{each-lost, id-falls, unit-link, is-stamped}
use Rattle.sl_model.proofs.Cuts.Begins.{begin-link, init-link, last-never-falls, Knows, knows, dumps-into, dones-into, TakesFit, fit-taken, fit-before, fit-last, heard-this}
use Rattle.sl_model.proofs.Cuts.Bounds.{upto-falls, floor-of-falls, within, AllBelow, all-below, ids-below, extends-run}
use Rattle.sl_model.proofs.Cuts.Prefixes.{first-all, data-sort, id-le, before-same, outside-more, none-old}
use Rattle.std.proofs.lemmas.Bool.{lt-ltb, le-ltb, cases_lt, and_left}
use Rattle.std.proofs.lemmas.Bool.Decides.{eqb_tells}
use Rattle.sl_model.specs.declared.message.Message.TheVariants.{Data, Init as InitMsg, Probe as ProbeMsg}
use Rattle.sl_model.specs.declared.message.Step.{Step}
use Rattle.sl_model.specs.declared.verdict.Lag.TheVariants.{Id}
use Rattle.sl_net.specs.declared.input.Packet.{Packet}
use Rattle.sl_model.specs.Cut.{outside}
use Rattle.sl_model.specs.Verdict.{skipped_to, is_old_data, nth_adopted, miscredits, first_cause, channel_lag, lag_at, lag}
use Rattle.sl_saves.specs.declared.entry.Total.{Total}
use Rattle.sl_model.specs.Counting.{packets, bytes}
use Rattle.sl_model.specs.Late.{is_old, late}
use Rattle.sl_model.specs.Collected.{IsKept}
use Rattle.sl_model.proofs.Worlds.Turns.{kept_by_run}
use Rattle.sl_model.proofs.Worlds.FifoRuns.{fifo_run-turn}
use Rattle.sl_parts.specs.Parts.{below}

-- What is on its way.

drop-past : (xs ys : List Message) → drop (length xs) (xs ++ ys) ≡ ys
drop-past [] ys = refl
drop-past (x ∷ xs) ys = drop-past xs ys

pub rest-is : (c : ℕ) (h : History) (ms : List Message) (f : Fifo c h ms) → drop (taken c h) ms ≡ f.rest
rest-is c h ms f = ap (λ n. drop n ms) (sym f.count) ∙ ap (drop (length (takes c h))) f.split ∙ drop-past (takes c h) f.rest

pub on-way-is : (net : Net) (lost : Losses) (w : World) (a c l : ℕ) → slice_get (links_into net a) c ≡ Some l → (f : Fifo c (history w a) (carried net lost w l)) → on_way net lost w l ≡ f.rest
on-way-is net lost w a c l k f = ap (λ n. drop (taken n (history w (link_of net l).to)) (carried net lost w l)) (choice-is net a c l k)
    ∙ ap (λ b. drop (taken c (history w b)) (carried net lost w l)) (is-into net a c l k).to ∙ rest-is c (history w a) (carried net lost w l) f

-- Units.

-- what holds of each unit holds of this one
pub of-unit : (net : Net) → HasWays net → (u : ℕ) (i : UnitId) (P : ℕ → Type 0) → Each P (units net) → actor_of net u ≡ OfUnit i → P u
of-unit net ways u i P e q = each-at P u (units net) e (ways.unit u i q)

-- The least is at most each.

pub least-start : (xs : List ℕ) (n : ℕ) → fold min n xs ≤ n
least-start [] n = omega arith
least-start (x ∷ xs) n = omega (arith, least-start xs (min n x))

pub least-each : (f : ℕ → ℕ) (cs : List ℕ) (n : ℕ) → Each (λ c. fold min n (map f cs) ≤ f c) cs
least-each f [] n = tt
least-each f (c ∷ cs) n = (omega (arith, least-start (map f cs) (min n (f c))), least-each f cs (min n (f c)))

first-least : (xs : List ℕ) (a n : ℕ) → unwrap_or (least_in (Some n) xs) a ≤ n
first-least [] a n = omega arith
first-least (x ∷ xs) a n = omega (arith, first-least xs a (min n x))

pub each-least : (f : ℕ → ℕ) (us : List ℕ) (a : ℕ) (o : Option ℕ) → Each (λ u. unwrap_or (least_in o (map f us)) a ≤ f u) us
each-least f [] a o = tt
each-least f (u ∷ us) a o = (omega (arith, first-least (map f us) a (min (unwrap_or o (f u)) (f u))), each-least f us a (Some (min (unwrap_or o (f u)) (f u))))

-- F is at most each number of each unit.

pub floor-last : (net : Net) (u c l : ℕ) (h : History) → slice_get (links_into net u) c ≡ Some l → IsTrue (is_stamped (link_of net l).sort) → floor_of net u h ≤ last c h
floor-last net u c l h k i = by_sort (link_of net l).sort refl i
  where
    le_upto : floor_of net u h ≤ upto_of net u h
    le_upto = least-start (map (λ c. last c h) (choices_of net u Init)) (upto_of net u h)

    of_upto : (c : ℕ) → upto_of net u h ≤ last c h → floor_of net u h ≤ last c h
    of_upto c q = omega (arith, le_upto, q)

    channels : Each (λ c. upto_of net u h ≤ last c h) (choices_of net u Cable ++ choices_of net u Crossbar)
    channels = least-each (λ c. last c h) (data_channels net u) (id h)

    by_sort : (t : Sort) → (link_of net l).sort ≡ t → IsTrue (is_stamped t) → floor_of net u h ≤ last c h
    by_sort Cable q i = of_upto c (each-at (λ c. upto_of net u h ≤ last c h) c (choices_of net u Cable) (each-front (λ c. upto_of net u h ≤ last c h) (choices_of net u Cable) (choices_of net u Crossbar) channels) (chosen net u Cable c l k q))
    by_sort Crossbar q i = of_upto c (each-at (λ c. upto_of net u h ≤ last c h) c (choices_of net u Crossbar) (each-back (λ c. upto_of net u h ≤ last c h) (choices_of net u Cable) (choices_of net u Crossbar) channels) (chosen net u Crossbar c l k q))
    by_sort Init q i = each-at (λ c. floor_of net u h ≤ last c h) c (choices_of net u Init) (least-each (λ c. last c h) (choices_of net u Init) (upto_of net u h)) (chosen net u Init c l k q)
    by_sort _ q i = absurd cc

pub floor-id : (net : Net) (u : ℕ) (h : History) → floor_of net u h ≤ id h
floor-id net u h = omega (arith, least-start (map (λ c. last c h) (choices_of net u Init)) (upto_of net u h), least-start (map (λ c. last c h) (data_channels net u)) (id h))

pub floor-unit : (net : Net) → HasWays net → (w : World) (u : ℕ) (i : UnitId) → actor_of net u ≡ OfUnit i → floor net w ≤ unit_floor net w u
floor-unit net ways w u i q = of-unit net ways u i (λ u. floor net w ≤ unit_floor net w u) (each-least (unit_floor net w) (units net) (issued net (observer w)) None) q

pub floor-now : (s : Setup) (lost : Losses) (w : World) (u : ℕ) (i : UnitId) → IsWired s.net → IsFifoRun s lost w → actor_of s.net u ≡ OfUnit i → floor s.net w ≤ floor_of s.net u (history w u)
floor-now s lost w u i n r q = let x : floor s.net w ≤ unit_floor s.net w u = floor-unit s.net n.ways w u i q in
    let y : unit_floor s.net w u ≤ floor_of s.net u (history w u) = falls-first (floor_of s.net u) (known (unit_place s.net u) (observer w)) (history w u) (floor-of-falls s lost w u n r) in omega (arith, x, y)

-- What is known of a number of a unit that never falls, by the counts of steps that are known.

rises-map : (f : ℕ → ℕ) → ((n m : ℕ) → n ≤ m → f n ≤ f m) → (a : ℕ) (xs : List ℕ) (b : ℕ) → Rises a xs b → Rises (f a) (map f xs) (f b)
rises-map f m a [] b r = m a b r
rises-map f m a (x ∷ xs) b r = (m a x r.0, rises-map f m x xs b r.1)

counts-rise : (s : Setup) (lost : Losses) (w : World) (u : ℕ) (i : UnitId) → IsWired s.net → IsFifoRun s lost w → actor_of s.net u ≡ OfUnit i → (p : Reports s.net u) → Rises 0 (known_counts s.net lost w u p) (length (history w u))
counts-rise s lost w u i n r q p = of_knows (knows s lost w u i n r p q)
  where
    of_knows : Knows s lost w u r p → Rises 0 (known_counts s.net lost w u p) (length (history w u))
    of_knows k =
        let dones : Rises (known (unit_place s.net u) (observer w)) (numbers (done_of (unit_place s.net u)) (on_way s.net lost w p.done)) (dumped (choice_of s.net p.dump) (history w p.control)) =
        subst (λ ms. Rises (known (unit_place s.net u) (observer w)) (numbers (done_of (unit_place s.net u)) ms) (dumped (choice_of s.net p.dump) (history w p.control)))
        (sym (on-way-is s.net lost w 0 (choice_of s.net p.done) p.done (dones-into s.net u p) (r.fifo 0 (choice_of s.net p.done) p.done (dones-into s.net u p))))
        (subst (λ x. Rises x (numbers (done_of (unit_place s.net u)) (r.fifo 0 (choice_of s.net p.done) p.done (dones-into s.net u p)).rest) (dumped (choice_of s.net p.dump) (history w p.control))) (sym k.told) k.dones.rises) in
        let dumps : Rises (dumped (choice_of s.net p.dump) (history w p.control)) (numbers dump_of (on_way s.net lost w p.dump)) (length (history w u)) =
        subst (λ ms. Rises (dumped (choice_of s.net p.dump) (history w p.control)) (numbers dump_of ms) (length (history w u)))
        (sym (on-way-is s.net lost w p.control (choice_of s.net p.dump) p.dump (dumps-into s.net u p) (r.fifo p.control (choice_of s.net p.dump) p.dump (dumps-into s.net u p)))) k.dumps.rises in (
          omega arith,
          rises-append (known (unit_place s.net u) (observer w)) (numbers (done_of (unit_place s.net u)) (on_way s.net lost w p.done)) (dumped (choice_of s.net p.dump) (history w p.control))
              (dumped (choice_of s.net p.dump) (history w p.control) ∷ numbers dump_of (on_way s.net lost w p.dump)) (length (history w u)) dones (omega arith, dumps),
        )

followed : (s : Setup) (lost : Losses) (w : World) (u : ℕ) (p : Reports s.net u) (g : History → ℕ) → Rises 0 (known_counts s.net lost w u p) (length (history w u)) → NeverFalls g (history w u)
    → floor s.net w ≤ after_steps g w u (known (unit_place s.net u) (observer w)) → IsFollowed s.net lost w u p g
followed s lost w u p g c f low = (
  low,
  subst (λ h. Rises (after_steps g w u (known (unit_place s.net u) (observer w))) (map (after_steps g w u) (numbers (done_of (unit_place s.net u)) (on_way s.net lost w p.done) ++ dumped (choice_of s.net p.dump) (history w p.control) ∷ numbers dump_of (on_way s.net lost w p.dump))) (g h))
      (first-all (length (history w u)) (history w u) (omega arith))
      (rises-map (after_steps g w u) (λ a b j. never-falls g a b (history w u) f j) (known (unit_place s.net u) (observer w)) _ (length (history w u)) c.1),
)

known-in-order : (s : Setup) (lost : Losses) (w : World) (u : ℕ) (i : UnitId) → IsWired s.net → IsFifoRun s lost w → actor_of s.net u ≡ OfUnit i → (p : Reports s.net u) → KnowsInOrder s.net lost w u p
known-in-order s lost w u i n r q p = let c = counts-rise s lost w u i n r q p in
    let low : floor s.net w ≤ unit_floor s.net w u = floor-unit s.net n.ways w u i q in
    record {
      counts = c;
      ids = followed s lost w u p id c (id-falls (history w u)) (omega (arith, low, floor-id s.net u (first (known (unit_place s.net u) (observer w)) (history w u))));
      lasts = λ l b t to. let k : slice_get (links_into s.net u) (choice_of s.net l) ≡ Some l = subst (λ a. slice_get (links_into s.net a) (choice_of s.net l) ≡ Some l) to (n.ways.taken l b) in
          followed s lost w u p (last (choice_of s.net l)) c (last-never-falls s lost w u (choice_of s.net l) l n r k t)
          (omega (arith, low, floor-last s.net u (choice_of s.net l) l (first (known (unit_place s.net u) (observer w)) (history w u)) k t));
    }

-- Links.

pub data-stamps : (s : Setup) (lost : Losses) (w : World) (l : ℕ) → IsWired s.net → IsFifoRun s lost w → IsDataChannel s.net l → StampsRise s.net lost w l (id (sender s.net w l))
data-stamps s lost w l n r d = let k = n.ways.taken l d.link in let x = n.data_from l d.link (data-sort (link_of s.net l).sort d.data_sort) in
    subst (λ ms. Rises (last (choice_of s.net l) (receiver s.net w l)) (numbers stamp_of ms) (id (sender s.net w l))) (sym (on-way-is s.net lost w (link_of s.net l).to (choice_of s.net l) l k (r.fifo (link_of s.net l).to (choice_of s.net l) l k)))
    (unit-link s lost w (link_of s.net l).to (choice_of s.net l) l x.0 r k x.1).rises

init-stamps : (s : Setup) (lost : Losses) (w : World) (l : ℕ) → IsWired s.net → IsFifoRun s lost w → l < length s.net.links → (link_of s.net l).sort ≡ Init → StampsRise s.net lost w l (begun (sender s.net w l))
init-stamps s lost w l n r p q = let k = n.ways.taken l p in let x = n.init_from l p q in
    subst (λ ms. Rises (last (choice_of s.net l) (receiver s.net w l)) (numbers stamp_of ms) (begun (sender s.net w l))) (sym (on-way-is s.net lost w (link_of s.net l).to (choice_of s.net l) l k (r.fifo (link_of s.net l).to (choice_of s.net l) l k)))
    (init-link s lost w (link_of s.net l).to (choice_of s.net l) l x.0 n r k x.1).rises

begins-rise : (s : Setup) (lost : Losses) (w : World) (l : ℕ) → IsWired s.net → IsFifoRun s lost w → l < length s.net.links → (link_of s.net l).sort ≡ Begin
    → Rises (begun (receiver s.net w l)) (numbers begin_of (on_way s.net lost w l)) (issued s.net (observer w))
begins-rise s lost w l n r p q = let k = n.ways.taken l p in
    subst (λ ms. Rises (begun (receiver s.net w l)) (numbers begin_of ms) (issued s.net (observer w))) (sym (on-way-is s.net lost w (link_of s.net l).to (choice_of s.net l) l k (r.fifo (link_of s.net l).to (choice_of s.net l) l k)))
    (subst (λ c. Rises (heard begin_of c (receiver s.net w l)) (numbers begin_of (r.fifo (link_of s.net l).to (choice_of s.net l) l k).rest) (issued s.net (observer w))) (n.begin_first (link_of s.net l).to (choice_of s.net l) l k q)
    (begin-link s lost w (link_of s.net l).to (choice_of s.net l) l n r k (n.begin_from l p q)).rises)

-- The window law.

pub in-window : (s : Setup) (lost : Losses) (es : List Entry) → IsWired s.net → IsInWindow s lost (world s lost es)
in-window s lost es n = of_bounds (all-below s lost es n).fifo_run (all-below s lost es n).below
  where
    of_bounds : IsFifoRun s lost (world s lost es) → AllBelow s.net (world s lost es) → IsInWindow s lost (world s lost es)
    of_bounds r b = record {
      knowledge = λ u i q p. known-in-order s lost (world s lost es) u i n r q p;
      data_stamps = λ l d. data-stamps s lost (world s lost es) l n r d;
      init_stamps = λ l p q. init-stamps s lost (world s lost es) l n r p q;
      begins = λ l p q. begins-rise s lost (world s lost es) l n r p q;
      ids = λ a. ids-below s lost (world s lost es) a r b;
      numbers = b;
      within = (within s lost es n).within;
    }

-- A unit's id lies at most W above each of its last-seen numbers, and so does each stamp on its way there.
pub near : (s : Setup) (lost : Losses) (w : World) (u l : ℕ) (i : UnitId) → IsWired s.net → IsFifoRun s lost w → IsInWindow s lost w → actor_of s.net u ≡ OfUnit i → l < length s.net.links → (link_of s.net l).to ≡ u → IsTrue (is_stamped (link_of s.net l).sort) → IsNear s lost w u l
near s lost w u l i n r x q p to t = record {
  id_near = omega (arith, x.ids u, low);
  stamps_near = each-imp (IsBelow (issued s.net (observer w))) (λ m. stamp m ≤ last (choice_of s.net l) (history w u) + s.window) (on_way s.net lost w l) (λ m b. omega (arith, b.stamp, low))
      (subst (Each (IsBelow (issued s.net (observer w)))) (sym (on-way-is s.net lost w u (choice_of s.net l) l k (r.fifo u (choice_of s.net l) l k)))
      (each-back (IsBelow (issued s.net (observer w))) (takes (choice_of s.net l) (history w u)) (r.fifo u (choice_of s.net l) l k).rest (subst (Each (IsBelow (issued s.net (observer w)))) (r.fifo u (choice_of s.net l) l k).split (each-lost (IsBelow (issued s.net (observer w))) (lost l) 0 (put l (history w (link_of s.net l).from)) (x.numbers l)))));
}
  where
    k : slice_get (links_into s.net u) (choice_of s.net l) ≡ Some l
    k = subst (λ a. slice_get (links_into s.net a) (choice_of s.net l) ≡ Some l) to (n.ways.taken l p)

    low : issued s.net (observer w) ≤ last (choice_of s.net l) (history w u) + s.window
    low = omega (arith, x.within, floor-now s lost w u i n r q, floor-last s.net u (choice_of s.net l) l (history w u) k t)

-- What a control plane has not collected of a unit lies near the unit's id.

floor-told : (s : Setup) (lost : Losses) (w : World) (u : ℕ) (i : UnitId) → IsWired s.net → IsFifoRun s lost w → actor_of s.net u ≡ OfUnit i → (p : Reports s.net u)
    → floor s.net w ≤ upto_of s.net u (first (dumped (choice_of s.net p.dump) (history w p.control)) (history w u))
floor-told s lost w u i n r q p = of_knows (knows s lost w u i n r p q)
  where
    of_knows : Knows s lost w u r p → floor s.net w ≤ upto_of s.net u (first (dumped (choice_of s.net p.dump) (history w p.control)) (history w u))
    of_knows k = let a : floor s.net w ≤ unit_floor s.net w u = floor-unit s.net n.ways w u i q in
        let b : unit_floor s.net w u ≤ upto_of s.net u (first (known (unit_place s.net u) (observer w)) (history w u)) =
        least-start (map (λ c. last c (first (known (unit_place s.net u) (observer w)) (history w u))) (choices_of s.net u Init)) (upto_of s.net u (first (known (unit_place s.net u) (observer w)) (history w u))) in
        let c : known (unit_place s.net u) (observer w) ≤ dumped (choice_of s.net p.dump) (history w p.control) =
        subst (λ x. x ≤ dumped (choice_of s.net p.dump) (history w p.control)) (sym k.told) (rises-le _ _ _ k.dones.rises) in
        let d : upto_of s.net u (first (known (unit_place s.net u) (observer w)) (history w u)) ≤ upto_of s.net u (first (dumped (choice_of s.net p.dump) (history w p.control)) (history w u)) =
        never-falls (upto_of s.net u) (known (unit_place s.net u) (observer w)) (dumped (choice_of s.net p.dump) (history w p.control)) (history w u) (upto-falls s lost w u n r) c in
        omega (arith, a, b, d)

pub uncollected-near : (s : Setup) (lost : Losses) (w : World) (a ring : ℕ) → s.window ≤ ring → IsWired s.net → IsFifoRun s lost w → IsInWindow s lost w
    → Each (λ v. (k : ℕ) → upto_of s.net v.unit (told_of (history w) v (history w a)) < k → id (history w v.unit) < k + ring) (served s.net a)
uncollected-near s lost w a ring wide n r x = each-map (λ v. (k : ℕ) → upto_of s.net v.unit (told_of (history w) v (history w a)) < k → id (history w v.unit) < k + ring) (serving s.net a) (links_out s.net a Poll)
    (each-imp (IsOut s.net a Poll) (λ l. (k : ℕ) → upto_of s.net (link_of s.net l).to (told_of (history w) (serving s.net a l) (history w a)) < k → id (history w (link_of s.net l).to) < k + ring) (links_out s.net a Poll)
    (λ l o k q. let near : id (history w (link_of s.net l).to) < k + s.window = of_unit l o (n.poll_to l o.is_link o.sort) k q in omega (arith, near, wide)) (n.ways.outs a Poll))
  where
    of_unit : (l : ℕ) → IsOut s.net a Poll l → ((i : UnitId) × (actor_of s.net (link_of s.net l).to ≡ OfUnit i)) → (k : ℕ) → upto_of s.net (link_of s.net l).to (told_of (history w) (serving s.net a l) (history w a)) < k
        → id (history w (link_of s.net l).to) < k + s.window
    of_unit l o i k q = of_reports (n.reports (link_of s.net l).to i.0 i.1)
      where
        of_reports : Reports s.net (link_of s.net l).to → id (history w (link_of s.net l).to) < k + s.window
        of_reports p = let u = (link_of s.net l).to in
            let c : a ≡ p.control = sym o.from ∙ ap (λ l. (link_of s.net l).from) (p.polled l refl o.sort) ∙ p.poll_from in
            let d : dumped (choice_from s.net a u Dump) (history w a) ≡ dumped (choice_of s.net p.dump) (history w p.control) =
            ap (λ b. dumped (choice_from s.net b u Dump) (history w b)) c ∙ ap (λ e. dumped e (history w p.control)) (p.dump_choice) in
            let f : floor s.net w ≤ upto_of s.net u (first (dumped (choice_from s.net a u Dump) (history w a)) (history w u)) =
            subst (λ m. floor s.net w ≤ upto_of s.net u (first m (history w u))) (sym d) (floor-told s lost w u i.0 n r i.1 p) in
            omega (arith, f, q, x.ids u, x.within)

-- What is collected of a snapshot never changes: where nothing of a unit lags behind k, no later step takes a message with a stamp below k.

-- The first that says something.

pub first-none : {A B : Type 0} (n : ℕ) (f : A → Option B) (xs : List A) → first_from n f xs ≡ None → Each (λ x. f x ≡ None) xs
first-none {A = A} {B = B} n f [] q = tt
first-none {A = A} {B = B} n f (x ∷ xs) q = by_option (f x) refl q (first-none (suc n) f xs)
  where
    by_option : (o : Option B) → f x ≡ o → or_later n o (first_from (suc n) f xs) ≡ None → (first_from (suc n) f xs ≡ None → Each (λ x. f x ≡ None) xs) → (f x ≡ None) × Each (λ x. f x ≡ None) xs
    by_option None e q ih = (e, ih q)
    by_option (Some b) e q ih = absurd cc

pub none-first : {A B : Type 0} (n : ℕ) (f : A → Option B) (xs : List A) → Each (λ x. f x ≡ None) xs → first_from n f xs ≡ None
none-first n f [] e = refl
none-first n f (x ∷ xs) e = ap (λ o. or_later n o (first_from (suc n) f xs)) e.0 ∙ none-first (suc n) f xs e.1

pub first-same : {A B : Type 0} (n : ℕ) (f g : A → Option B) (xs : List A) → Each (λ x. f x ≡ g x) xs → first_from n f xs ≡ first_from n g xs
first-same n f g [] e = refl
first-same n f g (x ∷ xs) e = ap (λ o. or_later n o (first_from (suc n) f xs)) e.0 ∙ ap (or_later n (g x)) (first-same (suc n) f g xs e.1)

-- Lags.

-- the id and each data last-seen number have reached k
pub record Reached (net : Net) (k u : ℕ) (h : History) : Type 0 where
  pub id_at : k ≤ id h
  pub lasts : Each (λ c. k ≤ last c h) (data_channels net u)

pub reached-of : (net : Net) (k u : ℕ) (h : History) → lag net k u h ≡ None → Reached net k u h
reached-of net k u h q = by_cases (cases_lt (id h) k)
  where
    last-of : (c : ℕ) → channel_lag k h c ≡ None → k ≤ last c h
    last-of c q = by_last (cases_lt (last c h) k)
      where
        by_last : ((last c h < k) ⊎ (k ≤ last c h)) → k ≤ last c h
        by_last (inl p) = absurd (let z : Some (last c h) ≡ None = sym (ap (λ b. if b then Some (last c h) else None) (lt-ltb (last c h) k p)) ∙ q in cc)
        by_last (inr p) = p

    no-channel : (o : Option (ℕ × ℕ)) → lag_at o ≡ None → o ≡ None
    no-channel None e = refl
    no-channel (Some c) e = absurd cc

    by_cases : ((id h < k) ⊎ (k ≤ id h)) → Reached net k u h
    by_cases (inl p) = absurd (let z : Some (Id (id h)) ≡ None = sym (ap (λ b. if b then Some (Id (id h)) else lag_at (first_told (channel_lag k h) (data_channels net u))) (lt-ltb (id h) k p)) ∙ q in cc)
    by_cases (inr p) = record {
      id_at = p;
      lasts = each-imp (λ c. channel_lag k h c ≡ None) (λ c. k ≤ last c h) (data_channels net u) last-of (first-none 0 (channel_lag k h) (data_channels net u)
          (no-channel (first_told (channel_lag k h) (data_channels net u)) (sym (ap (λ b. if b then Some (Id (id h)) else lag_at (first_told (channel_lag k h) (data_channels net u))) (le-ltb (id h) k p)) ∙ q)));
    }

pub lag-of : (net : Net) (k u : ℕ) (h : History) → Reached net k u h → lag net k u h ≡ None
lag-of net k u h r = ap (λ b. if b then Some (Id (id h)) else lag_at (first_told (channel_lag k h) (data_channels net u))) (le-ltb (id h) k r.id_at)
    ∙ ap lag_at (none-first 0 (channel_lag k h) (data_channels net u) (each-imp (λ c. k ≤ last c h) (λ c. channel_lag k h c ≡ None) (data_channels net u) (λ c p. ap (λ b. if b then Some (last c h) else None) (le-ltb (last c h) k p)) r.lasts))

-- Data channels.

-- what holds of each data channel holds of a choice that takes from one
pub channel-at : (net : Net) (a c l : ℕ) (P : ℕ → Type 0) → Each P (data_channels net a) → slice_get (links_into net a) c ≡ Some l → ((link_of net l).sort ≡ Cable) ⊎ ((link_of net l).sort ≡ Crossbar) → P c
channel-at net a c l P e k (inl q) = each-at P c (choices_of net a Cable) (each-front P (choices_of net a Cable) (choices_of net a Crossbar) e) (chosen net a Cable c l k q)
channel-at net a c l P e k (inr q) = each-at P c (choices_of net a Crossbar) (each-back P (choices_of net a Cable) (choices_of net a Crossbar) e) (chosen net a Crossbar c l k q)

-- a data channel takes from a link that carries data
pub record IsChannel (net : Net) (a c : ℕ) : Type 0 where
  pub link : ℕ
  pub into : slice_get (links_into net a) c ≡ Some link
  pub data_sort : ((link_of net link).sort ≡ Cable) ⊎ ((link_of net link).sort ≡ Crossbar)

pub each-channel : (net : Net) (a : ℕ) → Each (IsChannel net a) (data_channels net a)
each-channel net a = each-append (IsChannel net a) (choices_of net a Cable) (choices_of net a Crossbar)
    (each-imp (IsChoice net a Cable) (IsChannel net a) (choices_of net a Cable) (λ c i. record { link = link_at net a c; into = i.into; data_sort = inl i.sort }) (each-choice net a Cable))
    (each-imp (IsChoice net a Crossbar) (IsChannel net a) (choices_of net a Crossbar) (λ c i. record { link = link_at net a c; into = i.into; data_sort = inr i.sort }) (each-choice net a Crossbar))

pub data-fits : (t : Sort) (j : ℕ) (p : Packet) → fits t (Data j p) ≡ true → (t ≡ Cable) ⊎ (t ≡ Crossbar)
data-fits Cable j p f = inl refl
data-fits Crossbar j p f = inr refl
data-fits _ j p f = absurd cc

pub sort-stamped : (t : Sort) → (t ≡ Cable) ⊎ (t ≡ Crossbar) → IsTrue (is_stamped t)
sort-stamped t (inl q) = subst (λ t. IsTrue (is_stamped t)) (sym q) refl
sort-stamped t (inr q) = subst (λ t. IsTrue (is_stamped t)) (sym q) refl

-- the last-seen numbers of data channels never fall
abbrev DataFalls : Setup → ℕ → History → Type 0
DataFalls s a h = (c l : ℕ) → slice_get (links_into s.net a) c ≡ Some l → ((link_of s.net l).sort ≡ Cable) ⊎ ((link_of s.net l).sort ≡ Crossbar) → NeverFalls (last c) h

-- Steps after k was reached take no message with a stamp below k from a data channel.

stamp-new : (s : Setup) (a k : ℕ) (step : Step) (h : History) → TakesFit s a (step ∷ h) → DataFalls s a (step ∷ h) → Reached s.net k a h → (t : Took s a h step)
    → ((link_of s.net t.link).sort ≡ Cable) ⊎ ((link_of s.net t.link).sort ≡ Crossbar) → k ≤ stamp t.message
stamp-new s a k step h f d r t q = of_stamp (is-stamped (link_of s.net t.link).sort t.message (sort-stamped (link_of s.net t.link).sort q) (fit-last s a step h f t))
  where
    of_stamp : ((j : ℕ) × (stamp_of t.message ≡ Some j)) → k ≤ stamp t.message
    of_stamp j = let new : last step.choice (step ∷ h) ≡ j.0 = heard-this stamp_of step.choice j.0 step h t.message refl t.taken j.1 in
        let low : k ≤ last step.choice h = channel-at s.net a step.choice t.link (λ c. k ≤ last c h) r.lasts t.into q in
        let more : last step.choice h ≤ last step.choice (step ∷ h) = (d step.choice t.link t.into q).0 in
        let is : stamp t.message ≡ j.0 = ap (λ o. unwrap_or o 0) j.1 in
        omega (arith, new, low, more, is)

not-old : (s : Setup) (a k : ℕ) (step : Step) (h : History) → TakesFit s a (step ∷ h) → DataFalls s a (step ∷ h) → Reached s.net k a h → Took s a h step ⊎ Acted s a h step → is_old_data k step.taken ≡ false
not-old s a k step h f d r (inr t) = ap (is_old_data k) t.taken
not-old s a k step h f d r (inl t) = ap (is_old_data k) t.taken ∙ of_message t.message (fit-last s a step h f t) (λ q. stamp-new s a k step h f d r t q)
  where
    of_message : (m : Message) → fits_link s.net t.link m ≡ true → (((link_of s.net t.link).sort ≡ Cable) ⊎ ((link_of s.net t.link).sort ≡ Crossbar) → k ≤ stamp m) → is_old_data k (Some m) ≡ false
    of_message (Data j p) e n = le-ltb j k (n (data-fits (link_of s.net t.link).sort j p e))
    of_message _ e n = refl

filter-new : (k : ℕ) (xs ys : List Message) → Each (λ m. k ≤ stamp m) ys → filter (is_old k) (xs ++ ys) ≡ filter (is_old k) xs
filter-new k [] ys n = none-old k ys n
filter-new k (x ∷ xs) ys n = by_bool (is_old k x) (filter-new k xs ys n)
  where
    by_bool : (b : Bool) → filter (is_old k) (xs ++ ys) ≡ filter (is_old k) xs → cond b (x ∷ filter (is_old k) (xs ++ ys)) (filter (is_old k) (xs ++ ys)) ≡ cond b (x ∷ filter (is_old k) xs) (filter (is_old k) xs)
    by_bool true e = ap (λ r. x ∷ r) e
    by_bool false e = e

late-same : (s : Setup) (a k c : ℕ) (step : Step) (h : History) → TakesFit s a (step ∷ h) → DataFalls s a (step ∷ h) → Reached s.net k a h → Took s a h step ⊎ Acted s a h step → IsChannel s.net a c → late k c (step ∷ h) ≡ late k c h
late-same s a k c step h f d r t i = ap (λ g. filter (is_old k) (takes c g)) (outside-more k step h (omega (arith, r.id_at, id-le step h)))
    ∙ filter-new k (takes c (outside k h)) (if step.choice == c then listed step.taken else []) (by_tells (eqb_tells step.choice c))
  where
    of_step : step.choice ≡ c → Took s a h step ⊎ Acted s a h step → Each (λ m. k ≤ stamp m) (listed step.taken)
    of_step q (inr t) = subst (λ o. Each (λ m. k ≤ stamp m) (listed o)) (sym t.taken) tt
    of_step q (inl t) = subst (λ o. Each (λ m. k ≤ stamp m) (listed o)) (sym t.taken)
        (let same : t.link ≡ i.link = of_links (sym t.into ∙ ap (slice_get (links_into s.net a)) q ∙ i.into) in (stamp-new s a k step h f d r t (subst (λ l. ((link_of s.net l).sort ≡ Cable) ⊎ ((link_of s.net l).sort ≡ Crossbar)) (sym same) i.data_sort), tt))
      where
        of_links : {x y : ℕ} → Some x ≡ Some y → x ≡ y
        of_links e = cc

    by_tells : ((nat_eq step.choice c ≡ true) × (step.choice ≡ c)) ⊎ ((nat_eq step.choice c ≡ false) × (step.choice ≡ c → ⊥)) → Each (λ m. k ≤ stamp m) (if step.choice == c then listed step.taken else [])
    by_tells (inl q) = subst (λ b. Each (λ m. k ≤ stamp m) (if b then listed step.taken else [])) (sym q.0) (of_step q.1 t)
    by_tells (inr q) = subst (λ b. Each (λ m. k ≤ stamp m) (if b then listed step.taken else [])) (sym q.0) tt

abbrev total_of : History → Total
total_of h = record { packets = packets h; bytes = bytes h }

-- one step more
kept-step : (s : Setup) (credits a k : ℕ) (step : Step) (g h : History) → TakesFit s a (step ∷ h) → DataFalls s a (step ∷ h) → Took s a h step ⊎ Acted s a h step → IsKept credits s.net a k g h → IsKept credits s.net a k g (step ∷ h)
kept-step s credits a k step g h f d t i = of_reached (reached-of s.net k a h i.reached)
  where
    of_reached : Reached s.net k a h → IsKept credits s.net a k g (step ∷ h)
    of_reached r = let o : is_old_data k step.taken ≡ false = not-old s a k step h f d r t in
        let skip : skipped_to k (step ∷ h) ≡ skipped_to k h = ap (λ b. if b then Some (id (step ∷ h)) else skipped_to k h) (and_left (nat_lt (id h) k) (nat_lt k (id (step ∷ h))) (le-ltb (id h) k r.id_at)) in
        let miss : miscredits credits k (step ∷ h) ≡ miscredits credits k h = ap (λ b. cond b (nth_adopted credits (step ∷ h) ∷ miscredits credits k h) (miscredits credits k h)) (and_left (is_old_data k step.taken) (nat_lt k (nth_adopted credits (step ∷ h))) o) in
        record {
          reached = lag-of s.net k a (step ∷ h) (record {
            id_at = omega (arith, r.id_at, id-le step h);
            lasts = each-both-of (λ c. k ≤ last c h) (IsChannel s.net a) (λ c. k ≤ last c (step ∷ h)) (data_channels s.net a) (λ c p x. let more : last c h ≤ last c (step ∷ h) = (d c x.link x.into x.data_sort).0 in omega (arith, p, more)) r.lasts (each-channel s.net a);
          });
          value = ap total_of (before-same k step h (omega (arith, r.id_at, id-le step h))) ∙ i.value;
          cause = ap (λ o. first_cause o (least (miscredits credits k (step ∷ h)))) skip ∙ ap (λ ms. first_cause (skipped_to k h) (least ms)) miss ∙ i.cause;
          channels = each-both-of (λ c. late k c h ≡ late k c g) (IsChannel s.net a) (λ c. late k c (step ∷ h) ≡ late k c g) (data_channels s.net a) (λ c e x. late-same s a k c step h f d r t x ∙ e) i.channels (each-channel s.net a);
        }

kept-from : (s : Setup) (credits a k n : ℕ) (h : History) → IsMade s a h → TakesFit s a h → DataFalls s a h → lag s.net k a (first n h) ≡ None → IsKept credits s.net a k (first n h) h
kept-from s credits a k n [] m f d q = record { reached = q; value = refl; cause = refl; channels = each-of (λ c. late k c [] ≡ late k c []) (data_channels s.net a) (λ c m. refl) }
kept-from s credits a k n (step ∷ h) m f d q = by_cases (cases_lt (length h) n) (kept-from s credits a k n h m.1 (fit-before s a step h f) (λ c l i t. (d c l i t).1))
  where
    whole : length h < n → first n (step ∷ h) ≡ step ∷ h
    whole p = ap (λ b. if b then step ∷ h else first n h) (lt-ltb (length h) n p)

    past : n ≤ length h → first n (step ∷ h) ≡ first n h
    past p = ap (λ b. if b then step ∷ h else first n h) (le-ltb (length h) n p)

    by_cases : ((length h < n) ⊎ (n ≤ length h)) → (lag s.net k a (first n h) ≡ None → IsKept credits s.net a k (first n h) h) → IsKept credits s.net a k (first n (step ∷ h)) (step ∷ h)
    by_cases (inl p) ih = subst (λ g. IsKept credits s.net a k g (step ∷ h)) (sym (whole p))
        (record { reached = subst (λ g. lag s.net k a g ≡ None) (whole p) q; value = refl; cause = refl; channels = each-of (λ c. late k c (step ∷ h) ≡ late k c (step ∷ h)) (data_channels s.net a) (λ c m. refl) })
    by_cases (inr p) ih = subst (λ g. IsKept credits s.net a k g (step ∷ h)) (sym (past p)) (kept-step s credits a k step (first n h) h f d m.0 (ih (subst (λ g. lag s.net k a g ≡ None) (past p) q)))

-- Once nothing of a unit lags behind k, what its history tells of k stays.
pub kept : (s : Setup) (lost : Losses) (w : World) (credits u k n : ℕ) → IsWired s.net → IsFifoRun s lost w → lag s.net k u (first n (history w u)) ≡ None → IsKept credits s.net u k (first n (history w u)) (history w u)
kept s lost w credits u k n t r q = kept-from s credits u k n (history w u) (r.made u) (fit-taken s lost w u r) (λ c l i d. last-never-falls s lost w u c l t r i (sort-stamped (link_of s.net l).sort d)) q

-- ... in every longer schedule
pub kept-ahead : (s : Setup) (lost : Losses) (w : World) (es : List Entry) (credits u k n : ℕ) → IsWired s.net → IsFifoRun s lost w → n ≤ length (history w u) → lag s.net k u (first n (history w u)) ≡ None
    → IsKept credits s.net u k (first n (history w u)) (history (run s lost w es) u)
kept-ahead s lost w es credits u k n t r p q = let e : first n (history (run s lost w es) u) ≡ first n (history w u) = (extends-run s lost w es u).steps n p in
    subst (λ g. IsKept credits s.net u k g (history (run s lost w es) u)) e (kept s lost (run s lost w es) credits u k n t (kept_by_run s lost (IsFifoRun s lost) (fifo_run-turn s lost) w es r) (subst (λ g. lag s.net k u g ≡ None) (sym e) q))

pub distinct-channels : (net : Net) (u : ℕ) → Distinct (data_channels net u)
distinct-channels net u = distinct-append (choices_of net u Cable) (choices_of net u Crossbar) (once Cable) (once Crossbar)
    (λ c m n. let a = each-at (IsChoice net u Cable) c (choices_of net u Cable) (each-choice net u Cable) m in
    let b = each-at (IsChoice net u Crossbar) c (choices_of net u Crossbar) (each-choice net u Crossbar) n in let e : Cable ≡ Crossbar = sym a.sort ∙ b.sort in cc)
  where
    once : (t : Sort) → Distinct (choices_of net u t)
    once t = distinct-filter (λ c. same_sort (link_of net (link_at net u c)).sort t) (below (length (links_into net u))) (distinct-from 0 (length (links_into net u)))

-- links whose messages have stamps
pub stamped-sort : (t : Sort) (m : Message) (k : ℕ) → fits t m ≡ true → stamp_of m ≡ Some k → (t ≡ Cable) ⊎ ((t ≡ Crossbar) ⊎ (t ≡ Init))
stamped-sort Cable m k h q = inl refl
stamped-sort Crossbar m k h q = inr (inl refl)
stamped-sort Init m k h q = inr (inr refl)
stamped-sort _ (Data c p) k h q = absurd cc
stamped-sort _ (ProbeMsg c) k h q = absurd cc
stamped-sort _ (InitMsg c) k h q = absurd cc
stamped-sort t _ k h q = absurd cc

-- the choice of a link whose messages have stamps
pub stamped-choice : (net : Net) (u c l : ℕ) → slice_get (links_into net u) c ≡ Some l → ((link_of net l).sort ≡ Cable) ⊎ (((link_of net l).sort ≡ Crossbar) ⊎ ((link_of net l).sort ≡ Init))
    → Member c (data_channels net u) ⊎ Member c (choices_of net u Init)
stamped-choice net u c l k (inl q) = inl (member-left c (choices_of net u Cable) (choices_of net u Crossbar) (chosen net u Cable c l k q))
stamped-choice net u c l k (inr (inl q)) = inl (member-right c (choices_of net u Cable) (choices_of net u Crossbar) (chosen net u Crossbar c l k q))
stamped-choice net u c l k (inr (inr q)) = inr (chosen net u Init c l k q)
