-- Where all links are empty, the observer knows of a unit the steps up to the last one that took a poll.
use Rattle.std.proofs.Common.{◌≡◌, ℕ, zero, suc, ◌-◌, ◌≤◌, List, [], ◌∷◌, ◌++◌, length, true, false, Bool, Option, Some, None, refl, sym, ap, subst, ◌∙◌, arith, inl, inr, append-nil, append_assoc, length-append}
use Rattle.std.specs.Prelude.{◌⊎◌, ◌==◌, cond, if◌then◌else◌, slice_get, ◌&&◌}
use Rattle.std.specs.List.{list_all}
use Rattle.std.proofs.lemmas.Bool.{and_parts, eq-eqb}
use Rattle.std.proofs.lemmas.List.{drop_all}
use Rattle.sl_layout.specs.declared.actor.ActorId.{ActorId}
use Rattle.sl_layout.specs.declared.actor.ActorId.TheVariants.{Unit as OfUnit}
use Rattle.sl_layout.specs.declared.actor.UnitId.{UnitId}
use Rattle.sl_layout.specs.declared.actor.Side.{Side}
use Rattle.sl_layout.specs.declared.actor.Side.TheVariants.{Ingress, Egress}
use Rattle.sl_layout.specs.declared.actor.Sort.{Sort}
use Rattle.sl_layout.specs.declared.actor.Sort.TheVariants.{FromHost, ToHost, Cable, Crossbar, Init, Poll, Notice, Dump, Begin, Done}
use Rattle.sl_parts.specs.Lists.{Each, Member}
use Rattle.sl_parts.specs.Parts.{below}
use Rattle.sl_layout.specs.Net.{Net, actor_of, link_of, links_into, links_out, same_sort, choice_of, unit_place, units, is_unit, action_choice}
use Rattle.sl_layout.specs.Wiring.{kind_of}
use Rattle.sl_net.specs.declared.input.Packet.{Packet}
use Rattle.sl_net.specs.Wired.{IsWired, Reports}
use Rattle.sl_route.specs.Route.{next_port}
use Rattle.sl_model.specs.declared.message.Message.{Message}
use Rattle.sl_model.specs.declared.message.Message.TheVariants.{Host as HostMsg, Data, Probe as ProbeMsg, Init as InitMsg, Poll as PollMsg, Notice as NoticeMsg, Dump as DumpMsg, Begin as BeginMsg, Done as DoneMsg}
use Rattle.sl_model.specs.declared.message.Put.{Put}
use Rattle.sl_model.specs.declared.message.Step.{Step}
use Rattle.sl_model.specs.Words.{listed, numbers, last_of}
use Rattle.sl_model.specs.History.{History, Losses, history, stamp_of, dump_of, done_of, last, takes, taken, put, on_link, without_lost}
use Rattle.sl_model.specs.Setup.{Setup}
use Rattle.sl_model.specs.Frame.{packet_of}
use Rattle.sl_model.specs.Knowledge.{observer, known}
use Rattle.sl_model.specs.Puts.{send_all, onward, route, route_frame, crossbar_to, ingress_puts, egress_puts, is_own_port, side_puts, notice_puts, dump_puts, unit_puts, id_after, puts_of, action}
use Rattle.sl_model.specs.World.{Entry, IsLossTable, carried, receiver, sender, taken_by, world}
use Rattle.sl_model.specs.Window.{on_way}
use Rattle.sl_model.specs.Made.{Took, Acted, IsMade, IsFifoRun}
use Rattle.sl_model.specs.Fit.{fits, fits_link}
use Rattle.sl_model.specs.Reported.{AreReported}
use Rattle.sl_model.specs.Passing.{PassesMessages}
use Rattle.sl_model.specs.End.{AllTaken, KnowsAll}
use Rattle.sl_check.specs.Polled.{newest, carries_polls, is_polled, all_polled}
use Rattle.sl_parts.proofs.Lists.{each-both-of, each-at, each-imp, each-passes}

-- Dumps among puts.

numbers-append : (f : Message → Option ℕ) (xs ys : List Message) → numbers f (xs ++ ys) ≡ numbers f xs ++ numbers f ys
numbers-append f [] ys = refl
numbers-append f (x ∷ xs) ys = ap (λ (r : List ℕ). listed (f x) ++ r) (numbers-append f xs ys) ∙ sym (append_assoc (listed (f x)) (numbers f xs) (numbers f ys))

on_link-append : (l : ℕ) (ps qs : List Put) → on_link l (ps ++ qs) ≡ on_link l ps ++ on_link l qs
on_link-append l [] qs = refl
on_link-append l (p ∷ ps) qs = go (p.link == l) (on_link-append l ps qs)
  where
    go : (b : Bool) → on_link l (ps ++ qs) ≡ on_link l ps ++ on_link l qs
        → cond b (p.message ∷ on_link l (ps ++ qs)) (on_link l (ps ++ qs)) ≡ cond b (p.message ∷ on_link l ps) (on_link l ps) ++ on_link l qs
    go true e = ap (λ (r : List Message). p.message ∷ r) e
    go false e = e

-- the numbers of the dumps that puts bring to a link
abbrev dumps_on : ℕ → List Put → List ℕ
dumps_on l ps = numbers dump_of (on_link l ps)

dumps-append : (l : ℕ) (ps qs : List Put) → dumps_on l (ps ++ qs) ≡ dumps_on l ps ++ dumps_on l qs
dumps-append l ps qs = ap (numbers dump_of) (on_link-append l ps qs) ∙ numbers-append dump_of (on_link l ps) (on_link l qs)

no_dumps : (l : ℕ) (m : Message) (ls : List ℕ) → dump_of m ≡ None → dumps_on l (send_all m ls) ≡ []
no_dumps l m [] e = refl
no_dumps l m (k ∷ ls) e = go (k == l) (no_dumps l m ls e)
  where
    go : (b : Bool) → dumps_on l (send_all m ls) ≡ [] → numbers dump_of (cond b (m ∷ on_link l (send_all m ls)) (on_link l (send_all m ls))) ≡ []
    go true r = ap (λ (o : Option ℕ). listed o ++ dumps_on l (send_all m ls)) e ∙ r
    go false r = r

none_of_two : (l : ℕ) (ps qs : List Put) → dumps_on l ps ≡ [] → dumps_on l qs ≡ [] → dumps_on l (ps ++ qs) ≡ []
none_of_two l ps qs a b = dumps-append l ps qs ∙ ap (λ (r : List ℕ). r ++ dumps_on l qs) a ∙ b

route-none : (l : ℕ) (net : Net) (u d k : ℕ) (q : Packet) → dumps_on l (route net u d k q) ≡ []
route-none l net u d k q = go (q.hops == 0)
  where
    on : (o : Option ℕ) → dumps_on l (onward net u d k (record q { hops = q.hops - 1 }) o) ≡ []
    on None = refl
    on (Some port) = no_dumps l (Data k (record q { hops = q.hops - 1 })) (crossbar_to net u d port) refl

    go : (b : Bool) → dumps_on l (if b then [] else onward net u d k (record q { hops = q.hops - 1 }) (next_port net.parts d q.dst)) ≡ []
    go true = refl
    go false = on (next_port net.parts d q.dst)

frame-none : (l : ℕ) (net : Net) (u d k : ℕ) (o : Option Packet) → dumps_on l (route_frame net u d k o) ≡ []
frame-none l net u d k None = refl
frame-none l net u d k (Some q) = route-none l net u d k q

ingress-none : (l : ℕ) (net : Net) (u d k : ℕ) (m : Message) → dumps_on l (ingress_puts net u d k m) ≡ []
ingress-none l net u d k (HostMsg b) = frame-none l net u d k (packet_of b)
ingress-none l net u d k (Data s q) = route-none l net u d k q
ingress-none l net u d k (InitMsg s) = no_dumps l (ProbeMsg k) (links_out net u Crossbar) refl
ingress-none l net u d k _ = refl

egress-none : (l : ℕ) (net : Net) (u d p k x : ℕ) (m : Message) → dumps_on l (egress_puts net u d p k x m) ≡ []
egress-none l net u d p k x (Data s q) = none_of_two l (send_all (Data k q) (links_out net u Cable)) _ (no_dumps l (Data k q) (links_out net u Cable) refl) (no_dumps l _ (links_out net u ToHost) refl)
egress-none l net u d p k x (ProbeMsg s) = go (is_own_port net d p x)
  where
    go : (b : Bool) → dumps_on l (if b then send_all (ProbeMsg k) (links_out net u Cable) else []) ≡ []
    go true = no_dumps l (ProbeMsg k) (links_out net u Cable) refl
    go false = refl
egress-none l net u d p k x _ = refl

side-none : (l : ℕ) (net : Net) (u : ℕ) (i : UnitId) (s : Side) (k x : ℕ) (m : Message) → dumps_on l (side_puts net u i s k x m) ≡ []
side-none l net u i Ingress k x m = ingress-none l net u i.device k m
side-none l net u i Egress k x m = egress-none l net u i.device i.port k x m

notice-none : (l : ℕ) (net : Net) (u before : ℕ) (o : Option ℕ) → dumps_on l (notice_puts net u before o) ≡ []
notice-none l net u before None = refl
notice-none l net u before (Some s) = go (before == s)
  where
    go : (b : Bool) → dumps_on l (if b then [] else send_all NoticeMsg (links_out net u Notice)) ≡ []
    go true = refl
    go false = no_dumps l NoticeMsg (links_out net u Notice) refl

unit-dumps : (l : ℕ) (net : Net) (u : ℕ) (i : UnitId) (h : History) (c x : ℕ) (m : Message) → dumps_on l (unit_puts net u i h c x m) ≡ dumps_on l (dump_puts net u (suc (length h)) m)
unit-dumps l net u i h c x m =
    dumps-append l (side_puts net u i i.side (id_after m h) x m) (notice_puts net u (last c h) (stamp_of m) ++ dump_puts net u (suc (length h)) m)
    ∙ ap (λ (r : List ℕ). r ++ dumps_on l (notice_puts net u (last c h) (stamp_of m) ++ dump_puts net u (suc (length h)) m)) (side-none l net u i i.side (id_after m h) x m)
    ∙ dumps-append l (notice_puts net u (last c h) (stamp_of m)) (dump_puts net u (suc (length h)) m)
    ∙ ap (λ (r : List ℕ). r ++ dumps_on l (dump_puts net u (suc (length h)) m)) (notice-none l net u (last c h) (stamp_of m))

-- Polls.

-- how many steps a unit had made with the last one that took a poll
abbrev polled_at : Net → ℕ → History → ℕ
polled_at net u [] = 0
polled_at net u (s ∷ h) = if is_polled net u (Some s.choice) then suc (length h) else polled_at net u h

last-more : (n : ℕ) (xs : List ℕ) (m : ℕ) → last_of n (xs ++ (m ∷ [])) ≡ m
last-more n [] m = refl
last-more n (x ∷ xs) m = last-more x xs m

-- a message that fits a link is a poll exactly where the link carries polls
poll_fits : (t : Sort) (m : Message) → fits t m ≡ true → (same_sort t Poll ≡ true) × (m ≡ PollMsg) ⊎ (same_sort t Poll ≡ false) × ((net : Net) (u n : ℕ) → dump_puts net u n m ≡ [])
poll_fits FromHost (HostMsg b) f = inr (refl, λ net u n. refl)
poll_fits ToHost (HostMsg b) f = inr (refl, λ net u n. refl)
poll_fits Cable (Data k p) f = inr (refl, λ net u n. refl)
poll_fits Cable (ProbeMsg k) f = inr (refl, λ net u n. refl)
poll_fits Crossbar (Data k p) f = inr (refl, λ net u n. refl)
poll_fits Crossbar (ProbeMsg k) f = inr (refl, λ net u n. refl)
poll_fits Init (InitMsg k) f = inr (refl, λ net u n. refl)
poll_fits Poll PollMsg f = inl (refl, refl)
poll_fits Notice NoticeMsg f = inr (refl, λ net u n. refl)
poll_fits Dump (DumpMsg n) f = inr (refl, λ net u n. refl)
poll_fits Begin (BeginMsg k) f = inr (refl, λ net u n. refl)
poll_fits Done (DoneMsg u n) f = inr (refl, λ net u n. refl)
poll_fits _ _ f = absurd cc

-- what a unit took fits its links
abbrev TookFitting : Net → ℕ → History → Type 0
TookFitting net u h = (c l : ℕ) → slice_get (links_into net u) c ≡ Some l → Each (λ m. fits_link net l m ≡ true) (takes c h)

each-front : {A : Type 0} (P : A → Type 0) (xs ys : List A) → Each P (xs ++ ys) → Each P xs
each-front P [] ys h = tt
each-front P (x ∷ xs) ys h = (h.0, each-front P xs ys h.1)

each-back : {A : Type 0} (P : A → Type 0) (xs ys : List A) → Each P (xs ++ ys) → Each P ys
each-back P [] ys h = h
each-back P (x ∷ xs) ys h = each-back P xs ys h.1

fitting-before : (net : Net) (u : ℕ) (s : Step) (h : History) → TookFitting net u (s ∷ h) → TookFitting net u h
fitting-before net u s h f c l k = each-front (λ m. fits_link net l m ≡ true) (takes c h) (if s.choice == c then listed s.taken else []) (f c l k)

fitting-last : (st : Setup) (u : ℕ) (s : Step) (h : History) → TookFitting st.net u (s ∷ h) → (t : Took st u h s) → fits_link st.net t.link t.message ≡ true
fitting-last st u s h f t = let P = λ (m : Message). fits_link st.net t.link m ≡ true in
    let e = each-back P (takes s.choice h) (if s.choice == s.choice then listed s.taken else []) (f s.choice t.link t.into) in
    let q : (if s.choice == s.choice then listed s.taken else []) ≡ t.message ∷ [] = ap (λ b. if b then listed s.taken else []) (eq-eqb s.choice s.choice refl) ∙ ap listed t.taken in
    (subst (Each P) q e).0

-- the dumps that a unit put tell the steps up to the last one that took a poll
dumps_tell : (s : Setup) (u : ℕ) (i : UnitId) (r : Reports s.net u) (h : History) → actor_of s.net u ≡ OfUnit i → IsMade s u h → TookFitting s.net u h
    → last_of 0 (numbers dump_of (put r.dump h)) ≡ polled_at s.net u h
dumps_tell s u i r [] q m f = refl
dumps_tell s u i r (step ∷ h) q m f = of_step m.0 (dumps_tell s u i r h q m.1 (fitting-before s.net u step h f))
  where
    whole : numbers dump_of (put r.dump (step ∷ h)) ≡ numbers dump_of (put r.dump h) ++ dumps_on r.dump step.puts
    whole = numbers-append dump_of (put r.dump h) (on_link r.dump step.puts)

    dumped : dumps_on r.dump (dump_puts s.net u (suc (length h)) PollMsg) ≡ suc (length h) ∷ []
    dumped = ap (λ (ls : List ℕ). dumps_on r.dump (send_all (DumpMsg (suc (length h))) ls)) r.dumps
        ∙ ap (λ b. numbers dump_of (cond b (DumpMsg (suc (length h)) ∷ []) [])) (eq-eqb r.dump r.dump refl)

    of_step : Took s u h step ⊎ Acted s u h step → last_of 0 (numbers dump_of (put r.dump h)) ≡ polled_at s.net u h
        → last_of 0 (numbers dump_of (put r.dump (step ∷ h))) ≡ polled_at s.net u (step ∷ h)
    of_step (inr t) ih = absurd (of_number (step.choice - action_choice s.net u) (subst (λ x. action s t.floor u x h (step.choice - action_choice s.net u) ≡ Some step.puts) q t.puts))
      where
        of_number : (n : ℕ) → action s t.floor u (OfUnit i) h n ≡ Some step.puts → ⊥
        of_number zero e = cc
        of_number (suc n) e = cc
    of_step (inl t) ih = of_fit (poll_fits (link_of s.net t.link).sort t.message (fitting-last s u step h f t))
      where
        puts : dumps_on r.dump step.puts ≡ dumps_on r.dump (dump_puts s.net u (suc (length h)) t.message)
        puts = ap (dumps_on r.dump) (t.puts ∙ ap (λ x. puts_of s u x h step.choice t.link t.message) q) ∙ unit-dumps r.dump s.net u i h step.choice t.link t.message

        polled : is_polled s.net u (Some step.choice) ≡ same_sort (link_of s.net t.link).sort Poll
        polled = ap (carries_polls s.net) t.into

        of_fit : (same_sort (link_of s.net t.link).sort Poll ≡ true) × (t.message ≡ PollMsg) ⊎ (same_sort (link_of s.net t.link).sort Poll ≡ false) × ((net : Net) (u n : ℕ) → dump_puts net u n t.message ≡ [])
            → last_of 0 (numbers dump_of (put r.dump (step ∷ h))) ≡ polled_at s.net u (step ∷ h)
        of_fit (inl p) = ap (last_of 0) (whole ∙ ap (λ (r' : List ℕ). numbers dump_of (put r.dump h) ++ r') (puts ∙ ap (λ m. dumps_on r.dump (dump_puts s.net u (suc (length h)) m)) p.1 ∙ dumped))
            ∙ last-more 0 (numbers dump_of (put r.dump h)) (suc (length h)) ∙ sym (ap (λ b. if b then suc (length h) else polled_at s.net u h) (polled ∙ p.0))
        of_fit (inr p) = ap (last_of 0) (whole ∙ ap (λ (r' : List ℕ). numbers dump_of (put r.dump h) ++ r') (puts ∙ ap (dumps_on r.dump) (p.1 s.net u (suc (length h)))) ∙ append-nil (numbers dump_of (put r.dump h)))
            ∙ ih ∙ sym (ap (λ b. if b then suc (length h) else polled_at s.net u h) (polled ∙ p.0))

polled-within : (net : Net) (u : ℕ) (h : History) → polled_at net u h ≤ length h
polled-within net u [] = omega arith
polled-within net u (s ∷ h) = go (is_polled net u (Some s.choice)) (polled-within net u h)
  where
    go : (b : Bool) → polled_at net u h ≤ length h → (if b then suc (length h) else polled_at net u h) ≤ suc (length h)
    go true e = omega arith
    go false e = omega (arith, e)

-- it took a poll last exactly where that is its whole history
polled-whole : (net : Net) (u : ℕ) (h : History) → is_polled net u (newest h) ≡ true → polled_at net u h ≡ length h
polled-whole net u [] e = refl
polled-whole net u (s ∷ h) e = ap (λ b. if b then suc (length h) else polled_at net u h) e

whole-polled : (net : Net) (u : ℕ) (h : History) → polled_at net u h ≡ length h → is_polled net u (newest h) ≡ true
whole-polled net u [] e = refl
whole-polled net u (s ∷ h) e = go (is_polled net u (Some s.choice)) refl e
  where
    go : (b : Bool) → is_polled net u (Some s.choice) ≡ b → (if b then suc (length h) else polled_at net u h) ≡ suc (length h) → is_polled net u (Some s.choice) ≡ true
    go true k e = k
    go false k e = let w = polled-within net u h in absurd (omega (arith, w, e))

-- What the observer knows.

none_lost : (lost : ℕ → Bool) (n : ℕ) (ms : List Message) → ((k : ℕ) → lost k ≡ false) → without_lost lost n ms ≡ ms
none_lost lost n [] h = refl
none_lost lost n (m ∷ ms) h = ap (λ b. if b then without_lost lost (suc n) ms else m ∷ without_lost lost (suc n) ms) (h (suc n)) ∙ ap (λ (r : List Message). m ∷ r) (none_lost lost (suc n) ms h)

-- what the law on Dones says
abbrev pub Told : Type 0
Told = (s : Setup) (lost : Losses) (es : List Entry) (u : ℕ) (i : UnitId) (r : Reports s.net u) → IsLossTable s.net lost → actor_of s.net u ≡ OfUnit i
    → numbers (done_of (unit_place s.net u)) (takes (choice_of s.net r.done) (observer (world s lost es)) ++ on_way s.net lost (world s lost es) r.done)
    ≡ numbers dump_of (takes (choice_of s.net r.dump) (history (world s lost es) r.control))

no_rest : (xs : List Message) (ys : List Message) (n : ℕ) → n ≡ length (xs ++ ys) → length xs ≡ n → ys ≡ []
no_rest xs [] n e f = refl
no_rest xs (y ∷ ys) n e f = absurd (omega (arith, e, f, length-append xs (y ∷ ys)))

each-member : (P : Message → Type 0) (ms xs : List Message) → Each P ms → Each (λ m. Member m ms) xs → Each P xs
each-member P ms [] h k = tt
each-member P ms (x ∷ xs) h k = (each-at P x ms h k.0, each-member P ms xs h k.1)

each-of-test : (test : ℕ → Bool) (xs : List ℕ) → list_all test xs ≡ true → Each (λ x. test x ≡ true) xs
each-of-test test [] h = tt
each-of-test test (x ∷ xs) h = let p = and_parts (test x) (list_all test xs) h in (p.0, each-of-test test xs p.1)

test-of-each : (test : ℕ → Bool) (xs : List ℕ) → Each (λ x. test x ≡ true) xs → list_all test xs ≡ true
test-of-each test [] h = refl
test-of-each test (x ∷ xs) h = ap (λ b. b && list_all test xs) h.0 ∙ test-of-each test xs h.1

-- the units of a net are units
unit_of : (x : ActorId) → is_unit x ≡ true → (i : UnitId) × (x ≡ OfUnit i)
unit_of (OfUnit i) e = (i, refl)
unit_of _ e = absurd cc

units_are : (net : Net) → Each (λ u. (i : UnitId) × (actor_of net u ≡ OfUnit i)) (units net)
units_are net = each-imp (λ u. is_unit (actor_of net u) ≡ true) (λ u. (i : UnitId) × (actor_of net u ≡ OfUnit i)) (units net)
    (λ u e. unit_of (actor_of net u) e) (each-passes (λ u. is_unit (actor_of net u)) (below (length net.actors)))

module _ (s : Setup) (lost : Losses) (es : List Entry) (wired : IsWired s.net) (table : IsLossTable s.net lost) (all : AllTaken s.net lost (world s lost es))
    (fifo_run : IsFifoRun s lost (world s lost es)) (reported : AreReported s) (passes : PassesMessages) (told : Told) where
  fitting : (u : ℕ) → TookFitting s.net u (history (world s lost es) u)
  fitting u c l k = each-member (λ m. fits_link s.net l m ≡ true) (put l (sender s.net (world s lost es) l)) (takes c (history (world s lost es) u))
      (passes.fits s lost (world s lost es) l fifo_run) (passes.taken s lost (world s lost es) u c l fifo_run k)

  -- all dumps that a unit put were taken
  dumps_taken : (u : ℕ) (r : Reports s.net u) → takes (choice_of s.net r.dump) (history (world s lost es) r.control) ≡ put r.dump (history (world s lost es) u)
  dumps_taken u r =
      let f = fifo_run.fifo r.control (choice_of s.net r.dump) r.dump r.dump_taken in
      let n : taken (choice_of s.net r.dump) (history (world s lost es) r.control) ≡ length (carried s.net lost (world s lost es) r.dump) =
      ap (λ a. taken (choice_of s.net r.dump) (history (world s lost es) a)) (sym r.dump_to) ∙ all r.dump r.dump_out.is_link in
      let none = no_rest (takes (choice_of s.net r.dump) (history (world s lost es) r.control)) f.rest _ (n ∙ ap length f.split) f.count in
      sym (f.split ∙ ap (λ (x : List Message). takes (choice_of s.net r.dump) (history (world s lost es) r.control) ++ x) none ∙ append-nil (takes (choice_of s.net r.dump) (history (world s lost es) r.control)))
      ∙ none_lost (lost r.dump) 0 (put r.dump (sender s.net (world s lost es) r.dump)) (λ k. table r.dump k (ap kind_of r.dump_out.sort))
      ∙ ap (λ a. put r.dump (history (world s lost es) a)) r.dump_out.from

  -- all Dones that its control plane put were taken
  nothing_comes : (u : ℕ) (r : Reports s.net u) → on_way s.net lost (world s lost es) r.done ≡ []
  nothing_comes u r = let n = all r.done r.done_out.is_link in drop_all (taken_by s.net r.done (receiver s.net (world s lost es) r.done)) (carried s.net lost (world s lost es) r.done) (omega (arith, n))

  pub known_is : (u : ℕ) (i : UnitId) → actor_of s.net u ≡ OfUnit i → known (unit_place s.net u) (observer (world s lost es)) ≡ polled_at s.net u (history (world s lost es) u)
  known_is u i q =
      let r = wired.reports u i q in
      let c = choice_of s.net r.done in
      let heard_is = (reported lost (world s lost es) u i r fifo_run q).told in
      let last_is = passes.last_heard (done_of (unit_place s.net u)) c (observer (world s lost es)) in
      let took : takes c (observer (world s lost es)) ≡ takes c (observer (world s lost es)) ++ on_way s.net lost (world s lost es) r.done =
      sym (append-nil (takes c (observer (world s lost es)))) ∙ ap (λ (x : List Message). takes c (observer (world s lost es)) ++ x) (sym (nothing_comes u r)) in
      heard_is ∙ sym last_is ∙ ap (λ (x : List Message). last_of 0 (numbers (done_of (unit_place s.net u)) x)) took ∙ ap (last_of 0) (told s lost es u i r table q)
      ∙ ap (λ (x : List Message). last_of 0 (numbers dump_of x)) (dumps_taken u r)
      ∙ dumps_tell s u i r (history (world s lost es) u) q (fifo_run.made u) (fitting u)

  pub knows_where_polled : all_polled s.net (world s lost es) ≡ true → KnowsAll s.net (world s lost es)
  knows_where_polled h = each-both-of (λ u. (i : UnitId) × (actor_of s.net u ≡ OfUnit i)) (λ u. is_polled s.net u (newest (history (world s lost es) u)) ≡ true)
      (λ u. known (unit_place s.net u) (observer (world s lost es)) ≡ length (history (world s lost es) u)) (units s.net)
      (λ u a b. known_is u a.0 a.1 ∙ polled-whole s.net u (history (world s lost es) u) b) (units_are s.net) (each-of-test (λ u. is_polled s.net u (newest (history (world s lost es) u))) (units s.net) h)

  pub polled_where_known : KnowsAll s.net (world s lost es) → all_polled s.net (world s lost es) ≡ true
  polled_where_known h = test-of-each (λ u. is_polled s.net u (newest (history (world s lost es) u))) (units s.net)
      (each-both-of (λ u. (i : UnitId) × (actor_of s.net u ≡ OfUnit i)) (λ u. known (unit_place s.net u) (observer (world s lost es)) ≡ length (history (world s lost es) u))
      (λ u. is_polled s.net u (newest (history (world s lost es) u)) ≡ true) (units s.net)
      (λ u a b. whole-polled s.net u (history (world s lost es) u) (sym (known_is u a.0 a.1) ∙ b)) (units_are s.net) h)
