-- A control plane takes no more dumps from a unit than it puts polls to it, and has at most one poll outstanding. For each dump it puts one Done.
use Rattle.std.proofs.Common.{◌≡◌, ℕ, zero, suc, ◌+◌, ◌-◌, ◌<◌, ◌≤◌, List, [], ◌∷◌, ◌++◌, length, refl, sym, ap, subst, ◌∙◌, Option, Some, None, arith, inl, inr, length-append, append-nil, eq-eqb}
use Rattle.std.specs.Prelude.{◌⊎◌, true, false, Bool, not, ◌==◌, if◌then◌else◌, nat_eq, map, flat_map, slice_get}
use Rattle.std.proofs.lemmas.Bool.{ne_eqb, lt-ltb, le-ltb, cases_lt}
use Rattle.std.proofs.lemmas.Bool.Decides.{eqb_tells}
use Rattle.std.proofs.lemmas.Option.{slice_get_within}
use Rattle.sl_layout.specs.declared.actor.Side.{Side}
use Rattle.sl_layout.specs.declared.actor.Side.TheVariants.{Ingress, Egress}
use Rattle.sl_layout.specs.declared.actor.UnitId.{UnitId}
use Rattle.sl_layout.specs.declared.actor.ActorId.TheVariants.{Control, Unit as OfUnit}
use Rattle.sl_layout.specs.declared.actor.Sort.{Sort}
use Rattle.sl_layout.specs.declared.actor.Sort.TheVariants.{ToHost, Cable, Crossbar, Init, Poll, Notice, Dump, Done}
use Rattle.sl_net.specs.declared.input.Packet.{Packet}
use Rattle.sl_layout.specs.Net.{Net, actor_of, link_of, links_into, links_out, choice_of, action_choice, unit_place}
use Rattle.sl_layout.specs.Serving.{ServedUnit, serving, served, choice_from}
use Rattle.sl_net.specs.Wired.{Reports, IsWired}
use Rattle.sl_model.specs.declared.message.Message.{Message}
use Rattle.sl_model.specs.declared.message.Message.TheVariants.{Host as HostMsg, Data, Probe as ProbeMsg, Init as InitMsg, Poll as PollMsg, Notice as NoticeMsg, Dump as DumpMsg, Begin as BeginMsg, Done as DoneMsg}
use Rattle.sl_model.specs.declared.message.Put.{Put}
use Rattle.sl_model.specs.declared.message.Step.{Step}
use Rattle.sl_parts.specs.Lists.{Each, Member}
use Rattle.sl_parts.proofs.Lists.{each-append, each-map, each-imp, each-of, each-at, each-front, each-back, Distinct}
use Rattle.sl_model.specs.Words.{listed, numbers}
use Rattle.sl_model.specs.History.{History, World, Losses, history, last, taken, takes, put, on_link, stamp_of, dump_of, done_of, without_lost}
use Rattle.sl_model.specs.Setup.{Setup}
use Rattle.sl_model.specs.Frame.{plain_frame, packet_of}
use Rattle.sl_route.specs.Route.{next_port}
use Rattle.sl_model.specs.Knowledge.{is_outstanding, is_again, is_swept, observer}
use Rattle.sl_model.specs.Puts.{send, send_all, crossbar_to, onward, route, route_frame, ingress_puts, is_own_port, egress_puts, side_puts, notice_puts, dump_puts, id_after, unit_puts, poll_puts, dump_answer, control_puts, guarded, action}
use Rattle.sl_model.specs.World.{IsLossTable, carried}
use Rattle.sl_model.specs.Made.{Took, Acted, IsMade, IsFifoRun}
use Rattle.sl_model.specs.Fit.{fits, fits_link}
use Rattle.sl_net.specs.Ways.{IsOut}
use Rattle.sl_model.proofs.Worlds.Numbers.{numbers-append}
use Rattle.sl_model.proofs.Worlds.Turns.{taken-falls, taken-this}
use Rattle.sl_model.proofs.Worlds.Stamps.{PutBy, unit-said, took-by, acted-by, out-of, distinct-out}
use Rattle.sl_model.proofs.Cuts.Begins.{TakesFit, fit-taken, fit-before, fit-last, dumps-into, dones-into}
use Rattle.sl_model.proofs.Cuts.Collected.{on-way-is}
use Rattle.sl_layout.specs.Wiring.{kind_of}
use Rattle.sl_model.specs.Window.{on_way}
use Rattle.sl_model.specs.Polls.{IsAsked}
use Rattle.sl_model.specs.Turns.{Takes, Acts}

-- the control plane a serves the unit that the link l of polls leads to
pub record IsServed (net : Net) (a l : ℕ) : Type 0 where
  pub unit : UnitId
  pub is_unit : actor_of net (link_of net l).to ≡ OfUnit unit
  pub reports : Reports net (link_of net l).to
  pub control : a ≡ reports.control
  pub poll : l ≡ reports.poll
  pub dump : (serving net a l).dump ≡ choice_of net reports.dump

-- What is put on one link.

pub on-append : (l : ℕ) (ps qs : List Put) → on_link l (ps ++ qs) ≡ on_link l ps ++ on_link l qs
on-append l [] qs = refl
on-append l (p ∷ ps) qs = by_bool (p.link == l) (on-append l ps qs)
  where
    by_bool : (b : Bool) → on_link l (ps ++ qs) ≡ on_link l ps ++ on_link l qs
        → (if b then p.message ∷ on_link l (ps ++ qs) else on_link l (ps ++ qs)) ≡ (if b then p.message ∷ on_link l ps else on_link l ps) ++ on_link l qs
    by_bool true ih = ap (λ ms. p.message ∷ ms) ih
    by_bool false ih = ih

-- puts elsewhere
on-off : (l : ℕ) (ps : List Put) → Each (λ p. p.link ≡ l → ⊥) ps → on_link l ps ≡ []
on-off l [] e = refl
on-off l (p ∷ ps) e = ap (λ b. if b then p.message ∷ on_link l ps else on_link l ps) (ne_eqb p.link l e.0) ∙ on-off l ps e.1

pub send-off : (net : Net) (a l : ℕ) (t : Sort) (m : Message) → ((link_of net l).sort ≡ t → ⊥) → on_link l (send_all m (links_out net a t)) ≡ []
send-off net a l t m ne = on-off l (send_all m (links_out net a t)) (each-map (λ p. p.link ≡ l → ⊥) (send m) (links_out net a t)
    (each-of (λ k. k ≡ l → ⊥) (links_out net a t) (λ k o e. ne (ap (λ x. (link_of net x).sort) (sym e) ∙ (out-of net a t k o).sort))))

on-one : (l : ℕ) (m : Message) → on_link l (send m l ∷ []) ≡ m ∷ []
on-one l m = ap (λ b. if b then m ∷ [] else []) (eq-eqb l l refl)

on-other : (k l : ℕ) (m : Message) → (k ≡ l → ⊥) → on_link l (send m k ∷ []) ≡ []
on-other k l m ne = on-off l (send m k ∷ []) (ne, tt)

-- what is put for one of the links of a list, where nothing of it is put for the others
own : {X : Type 0} (F : List Put → List X) → F [] ≡ [] → ((xs ys : List Put) → F (xs ++ ys) ≡ F xs ++ F ys) → (f : ℕ → List Put) (l : ℕ) (ls : List ℕ) → Distinct ls → Member l ls
    → ((x : ℕ) → Member x ls → (x ≡ l → ⊥) → F (f x) ≡ []) → F (flat_map f ls) ≡ F (f l)
own F z app f l [] d m off = absurd m
own {X = X} F z app f l (x ∷ xs) d (inl q) off = app (f x) (flat_map f xs) ∙ ap (λ r. F (f x) ++ r) (rest xs (λ y m. off y (inr m) (λ e. d.0 (subst (λ w. Member w xs) (e ∙ q) m)))) ∙ append-nil (F (f x)) ∙ ap (λ y. F (f y)) (sym q)
  where
    rest : (ys : List ℕ) → ((y : ℕ) → Member y ys → F (f y) ≡ []) → F (flat_map f ys) ≡ []
    rest [] h = z
    rest (y ∷ ys) h = app (f y) (flat_map f ys) ∙ ap (λ r. r ++ F (flat_map f ys)) (h y (inl refl)) ∙ rest ys (λ w m. h w (inr m))
own F z app f l (x ∷ xs) d (inr m) off = app (f x) (flat_map f xs) ∙ ap (λ r. r ++ F (flat_map f xs)) (off x (inl refl) (λ e. d.0 (subst (λ w. Member w xs) (sym e) m)))
    ∙ own F z app f l xs d.1 m (λ y k. off y (inr k))

flat-map-one : (g : ServedUnit → List Put) (f : ℕ → ServedUnit) (ls : List ℕ) → flat_map g (map f ls) ≡ flat_map (λ l. g (f l)) ls
flat-map-one g f [] = refl
flat-map-one g f (l ∷ ls) = ap (λ r. g (f l) ++ r) (flat-map-one g f ls)

pub own-link : (net : Net) (a l : ℕ) (g : ServedUnit → List Put) → Member l (links_out net a Poll) → ((x : ℕ) → (x ≡ l → ⊥) → on_link l (g (serving net a x)) ≡ []) → on_link l (flat_map g (served net a)) ≡ on_link l (g (serving net a l))
own-link net a l g m off = ap (on_link l) (flat-map-one g (serving net a) (links_out net a Poll))
    ∙ own (on_link l) refl (on-append l) (λ x. g (serving net a x)) l (links_out net a Poll) (distinct-out net a Poll) m (λ x k ne. off x ne)

-- One poll at a time.

pub polls-else : (v : ServedUnit) (h : History) (l : ℕ) → (v.poll ≡ l → ⊥) → on_link l (poll_puts v h) ≡ []
polls-else v h l ne = by_bool (is_outstanding v h)
  where
    by_bool : (b : Bool) → on_link l (if b then [] else send PollMsg v.poll ∷ []) ≡ []
    by_bool true = refl
    by_bool false = on-other v.poll l PollMsg ne

pub again-else : (b : Bool) (k l : ℕ) → (k ≡ l → ⊥) → on_link l (if b then send PollMsg k ∷ [] else []) ≡ []
again-else true k l ne = on-other k l PollMsg ne
again-else false k l ne = refl

again-one : (b : Bool) (l : ℕ) → length (on_link l (if b then send PollMsg l ∷ [] else [])) ≤ 1
again-one true l = let e = ap length (on-one l PollMsg) in omega (arith, e)
again-one false l = omega arith

-- at most one where none is outstanding
abbrev PollsOnce : ServedUnit → History → ℕ → Type 0
PollsOnce v h n = n ≤ (if is_outstanding v h then 0 else 1)

polls-once : (v : ServedUnit) (h : History) → PollsOnce v h (length (on_link v.poll (poll_puts v h)))
polls-once v h = by_bool (is_outstanding v h)
  where
    by_bool : (b : Bool) → length (on_link v.poll (if b then [] else send PollMsg v.poll ∷ [])) ≤ (if b then 0 else 1)
    by_bool true = omega arith
    by_bool false = let e = ap length (on-one v.poll PollMsg) in omega (arith, e)

once-if : (v : ServedUnit) (h : History) (b : Bool) → PollsOnce v h (length (on_link v.poll (if b then poll_puts v h else [])))
once-if v h true = polls-once v h
once-if v h false = omega arith

pub if-off : (b : Bool) (l : ℕ) (ps : List Put) → on_link l ps ≡ [] → on_link l (if b then ps else []) ≡ []
if-off true l ps e = e
if-off false l ps e = refl

-- at most one more where a dump came
abbrev OnceMore : ServedUnit → Step → History → Type 0
OnceMore v step h = PollsOnce v h (length (on_link v.poll step.puts)) ⊎ ((step.choice ≡ v.dump) × (length (on_link v.poll step.puts) ≤ 1))

poll-sort : (net : Net) (a l : ℕ) → Member l (links_out net a Poll) → (link_of net l).sort ≡ Poll
poll-sort net a l m = (out-of net a Poll l m).sort

pub answer-on : (net : Net) (a l n : ℕ) (h : History) (v : ServedUnit) → Member l (links_out net a Poll) → on_link l (dump_answer net a h n v) ≡ on_link l (if is_again (action_choice net a) v h then send PollMsg v.poll ∷ [] else [])
answer-on net a l n h v m = on-append l (send_all (DoneMsg (unit_place net v.unit) n) (links_out net a Done)) (if is_again (action_choice net a) v h then send PollMsg v.poll ∷ [] else [])
    ∙ ap (λ ms. ms ++ on_link l (if is_again (action_choice net a) v h then send PollMsg v.poll ∷ [] else [])) (send-off net a l Done (DoneMsg (unit_place net v.unit) n) (λ e. let x = sym (poll-sort net a l m) ∙ e in cc))

asked-step : (s : Setup) (a d l : ℕ) (step : Step) (h : History) → actor_of s.net a ≡ Control d → Member l (links_out s.net a Poll) → Took s a h step ⊎ Acted s a h step → OnceMore (serving s.net a l) step h
asked-step s a d l step h q m (inr x) = of_choice (step.choice - action_choice s.net a) (acted-by s a h step (Control d) q x)
  where
    of_guard : (b : Bool) → guarded b (flat_map (λ v. poll_puts v h) (served s.net a)) ≡ Some step.puts → OnceMore (serving s.net a l) step h
    of_guard true e = let p : flat_map (λ v. poll_puts v h) (served s.net a) ≡ step.puts = cc in
        inl (subst (λ ms. PollsOnce (serving s.net a l) h (length ms)) (sym (own-link s.net a l (λ v. poll_puts v h) m (λ y ne. polls-else (serving s.net a y) h l ne)) ∙ ap (on_link l) p) (polls-once (serving s.net a l) h))
    of_guard false e = absurd cc

    of_choice : (n : ℕ) → action s x.floor a (Control d) h n ≡ Some step.puts → OnceMore (serving s.net a l) step h
    of_choice zero e = of_guard (not (is_swept s.net a h)) e
    of_choice (suc n) e = absurd cc
asked-step s a d l step h q m (inl x) = of_message x.message (took-by s a h step (Control d) q x)
  where
    none : on_link l step.puts ≡ [] → OnceMore (serving s.net a l) step h
    none e = inl (subst (λ ms. PollsOnce (serving s.net a l) h (length ms)) (sym e) (omega arith))

    of_dump : (n : ℕ) → step.puts ≡ flat_map (λ v. if step.choice == v.dump then dump_answer s.net a h n v else []) (served s.net a)
        → ((nat_eq step.choice (serving s.net a l).dump ≡ true) × (step.choice ≡ (serving s.net a l).dump)) ⊎ ((nat_eq step.choice (serving s.net a l).dump ≡ false) × (step.choice ≡ (serving s.net a l).dump → ⊥)) → OnceMore (serving s.net a l) step h
    of_dump n e t = by_tells t (ap (on_link l) e ∙ own-link s.net a l (λ v. if step.choice == v.dump then dump_answer s.net a h n v else []) m
        (λ y ne. if-off (step.choice == (serving s.net a y).dump) l (dump_answer s.net a h n (serving s.net a y)) (answer-on s.net a l n h (serving s.net a y) m ∙ again-else (is_again (action_choice s.net a) (serving s.net a y) h) y l ne)))
      where
        by_tells : ((nat_eq step.choice (serving s.net a l).dump ≡ true) × (step.choice ≡ (serving s.net a l).dump)) ⊎ ((nat_eq step.choice (serving s.net a l).dump ≡ false) × (step.choice ≡ (serving s.net a l).dump → ⊥))
            → on_link l step.puts ≡ on_link l (if step.choice == (serving s.net a l).dump then dump_answer s.net a h n (serving s.net a l) else []) → OnceMore (serving s.net a l) step h
        by_tells (inl t) o = inr (
          t.1,
          subst (λ ms. length ms ≤ 1) (sym (o ∙ ap (λ b. on_link l (if b then dump_answer s.net a h n (serving s.net a l) else [])) t.0 ∙ answer-on s.net a l n h (serving s.net a l) m))
              (again-one (is_again (action_choice s.net a) (serving s.net a l) h) l),
        )
        by_tells (inr t) o = none (o ∙ ap (λ b. on_link l (if b then dump_answer s.net a h n (serving s.net a l) else [])) t.0)

    of_message : (k : Message) → step.puts ≡ control_puts s.net a h step.choice k → OnceMore (serving s.net a l) step h
    of_message (BeginMsg n) e = none (ap (on_link l) e ∙ send-off s.net a l Init (InitMsg n) (λ t. let y = sym (poll-sort s.net a l m) ∙ t in cc))
    of_message NoticeMsg e = inl (subst (λ ms. PollsOnce (serving s.net a l) h (length ms))
        (sym (ap (on_link l) e ∙ own-link s.net a l (λ v. if step.choice == v.notice then poll_puts v h else []) m
        (λ y ne. if-off (step.choice == (serving s.net a y).notice) l (poll_puts (serving s.net a y) h) (polls-else (serving s.net a y) h l ne))))
        (once-if (serving s.net a l) h (step.choice == (serving s.net a l).notice)))
    of_message (DumpMsg n) e = of_dump n e (eqb_tells step.choice (serving s.net a l).dump)
    of_message _ e = none (ap (on_link l) e)

one-poll : (s : Setup) (a d l : ℕ) (h : History) → actor_of s.net a ≡ Control d → Member l (links_out s.net a Poll) → IsMade s a h → length (put l h) ≤ suc (taken (serving s.net a l).dump h)
one-poll s a d l [] q m k = omega arith
one-poll s a d l (step ∷ h) q m k = by_step (one-poll s a d l h q m k.1) (asked-step s a d l step h q m k.0)
  where
    v : ServedUnit
    v = serving s.net a l

    more : length (put l (step ∷ h)) ≡ length (put l h) + length (on_link l step.puts)
    more = length-append (put l h) (on_link l step.puts)

    by_step : length (put l h) ≤ suc (taken (serving s.net a l).dump h) → OnceMore (serving s.net a l) step h → length (put l (step ∷ h)) ≤ suc (taken (serving s.net a l).dump (step ∷ h))
    by_step ih (inr p) = let t = taken-this (serving s.net a l).dump step h p.0 in let o = p.1 in omega (arith, ih, more, t, o)
    by_step ih (inl p) = by_bool (cases_lt (taken (serving s.net a l).dump h) (length (put l h)))
      where
        by_bool : ((taken (serving s.net a l).dump h < length (put l h)) ⊎ (length (put l h) ≤ taken (serving s.net a l).dump h)) → length (put l (step ∷ h)) ≤ suc (taken (serving s.net a l).dump (step ∷ h))
        by_bool (inl x) = let o : length (on_link l step.puts) ≤ 0 = subst (λ b. length (on_link l step.puts) ≤ (if b then 0 else 1)) (lt-ltb (taken (serving s.net a l).dump h) (length (put l h)) x) p in omega (arith, ih, more, o, taken-falls (serving s.net a l).dump step h)
        by_bool (inr x) = let o : length (on_link l step.puts) ≤ 1 = subst (λ b. length (on_link l step.puts) ≤ (if b then 0 else 1)) (le-ltb (taken (serving s.net a l).dump h) (length (put l h)) x) p in omega (arith, x, more, o, taken-falls (serving s.net a l).dump step h)

-- Each dump answers a poll.

-- no dump among puts
abbrev NoDump : List Put → Type 0
NoDump ps = Each (λ p. dump_of p.message ≡ None) ps

sends : (m : Message) (ls : List ℕ) → dump_of m ≡ None → NoDump (send_all m ls)
sends m ls h = each-map (λ p. dump_of p.message ≡ None) (send m) ls (each-of (λ l. dump_of m ≡ None) ls (λ l k. h))

onward-none : (net : Net) (u d k : ℕ) (q : Packet) (o : Option ℕ) → NoDump (onward net u d k q o)
onward-none net u d k q None = tt
onward-none net u d k q (Some port) = sends (Data k q) (crossbar_to net u d port) refl

route-none : (net : Net) (u d k : ℕ) (q : Packet) → NoDump (route net u d k q)
route-none net u d k q = by_bool (q.hops == 0)
  where
    by_bool : (b : Bool) → NoDump (if b then [] else onward net u d k (record q { hops = q.hops - 1 }) (next_port net.parts d q.dst))
    by_bool true = tt
    by_bool false = onward-none net u d k (record q { hops = q.hops - 1 }) (next_port net.parts d q.dst)

frame-none : (net : Net) (u d k : ℕ) (o : Option Packet) → NoDump (route_frame net u d k o)
frame-none net u d k None = tt
frame-none net u d k (Some q) = route-none net u d k q

ingress-none : (net : Net) (u d k : ℕ) (m : Message) → NoDump (ingress_puts net u d k m)
ingress-none net u d k (HostMsg bytes) = frame-none net u d k (packet_of bytes)
ingress-none net u d k (Data s q) = route-none net u d k q
ingress-none net u d k (InitMsg s) = sends (ProbeMsg k) (links_out net u Crossbar) refl
ingress-none net u d k _ = tt

egress-none : (net : Net) (u d p k l : ℕ) (m : Message) → NoDump (egress_puts net u d p k l m)
egress-none net u d p k l (Data s q) = each-append (λ p. dump_of p.message ≡ None) (send_all (Data k q) (links_out net u Cable)) (send_all (HostMsg (plain_frame q)) (links_out net u ToHost))
    (sends (Data k q) (links_out net u Cable) refl) (sends (HostMsg (plain_frame q)) (links_out net u ToHost) refl)
egress-none net u d p k l (ProbeMsg s) = by_bool (is_own_port net d p l)
  where
    by_bool : (b : Bool) → NoDump (if b then send_all (ProbeMsg k) (links_out net u Cable) else [])
    by_bool true = sends (ProbeMsg k) (links_out net u Cable) refl
    by_bool false = tt
egress-none net u d p k l _ = tt

side-none : (net : Net) (u : ℕ) (i : UnitId) (side : Side) (k l : ℕ) (m : Message) → NoDump (side_puts net u i side k l m)
side-none net u i Ingress k l m = ingress-none net u i.device k m
side-none net u i Egress k l m = egress-none net u i.device i.port k l m

notice-none : (net : Net) (u before : ℕ) (o : Option ℕ) → NoDump (notice_puts net u before o)
notice-none net u before None = tt
notice-none net u before (Some t) = by_bool (before == t)
  where
    by_bool : (b : Bool) → NoDump (if b then [] else send_all NoticeMsg (links_out net u Notice))
    by_bool true = tt
    by_bool false = sends NoticeMsg (links_out net u Notice) refl

-- what fits a link of dumps is a dump
dump-fits : (m : Message) → fits Dump m ≡ true → dump_of m ≡ None → ⊥
dump-fits (DumpMsg n) f e = cc
dump-fits _ f e = cc

-- puts that fit their links and are no dumps go elsewhere
dump-off : (net : Net) (l : ℕ) (ps : List Put) → (link_of net l).sort ≡ Dump → Each (λ p. fits_link net p.link p.message ≡ true) ps → NoDump ps → on_link l ps ≡ []
dump-off net l ps t f e = on-off l ps (zip ps f e)
  where
    here : (p : Put) → fits_link net p.link p.message ≡ true → dump_of p.message ≡ None → p.link ≡ l → ⊥
    here p f e q = dump-fits p.message (sym (ap (λ k. fits k p.message) (ap (λ x. (link_of net x).sort) q ∙ t)) ∙ f) e

    zip : (ps : List Put) → Each (λ p. fits_link net p.link p.message ≡ true) ps → NoDump ps → Each (λ p. p.link ≡ l → ⊥) ps
    zip [] f e = tt
    zip (p ∷ ps) f e = (here p f.0 e.0, zip ps f.1 e.1)

abbrev FitPut : Net → Put → Type 0
FitPut net p = fits_link net p.link p.message ≡ true

last-part : (net : Net) (l : ℕ) (xs ys zs : List Put) → (link_of net l).sort ≡ Dump → Each (FitPut net) (xs ++ (ys ++ zs)) → NoDump xs → NoDump ys → on_link l (xs ++ (ys ++ zs)) ≡ on_link l zs
last-part net l xs ys zs t f a b = on-append l xs (ys ++ zs) ∙ ap (λ ms. ms ++ on_link l (ys ++ zs)) (dump-off net l xs t (each-front (FitPut net) xs (ys ++ zs) f) a)
    ∙ on-append l ys zs ∙ ap (λ ms. ms ++ on_link l zs) (dump-off net l ys t (each-front (FitPut net) ys zs (each-back (FitPut net) xs (ys ++ zs) f)) b)

-- what a unit puts on its link of dumps is the answer to a poll
unit-answer : (s : Setup) (u : ℕ) (i : UnitId) (r : Reports s.net u) (h : History) (c l : ℕ) (m : Message) → on_link r.dump (unit_puts s.net u i h c l m) ≡ on_link r.dump (dump_puts s.net u (suc (length h)) m)
unit-answer s u i r h c l m = last-part s.net r.dump (side_puts s.net u i i.side (id_after m h) l m) (notice_puts s.net u (last c h) (stamp_of m)) (dump_puts s.net u (suc (length h)) m)
    r.dump_out.sort
    (each-imp (PutBy s.net (id_after m h) (suc (length h))) (FitPut s.net) (unit_puts s.net u i h c l m) (λ p b. b.fits) (unit-said s.net u i h c l m))
    (side-none s.net u i i.side (id_after m h) l m) (notice-none s.net u (last c h) (stamp_of m))

-- at most one, where a poll came; it came by the choice of the link of polls
unit-step : (s : Setup) (u : ℕ) (i : UnitId) (r : Reports s.net u) (step : Step) (h : History) → actor_of s.net u ≡ OfUnit i → TakesFit s u (step ∷ h) → Took s u h step ⊎ Acted s u h step
    → (on_link r.dump step.puts ≡ []) ⊎ ((step.choice ≡ choice_of s.net r.poll) × (length (on_link r.dump step.puts) ≤ 1))
unit-step s u i r step h q f (inr x) = absurd (let e : action s x.floor u (OfUnit i) h (step.choice - action_choice s.net u) ≡ Some step.puts = acted-by s u h step (OfUnit i) q x in cc)
unit-step s u i r step h q f (inl x) = of_message x.message refl (ap (on_link r.dump) (took-by s u h step (OfUnit i) q x) ∙ unit-answer s u i r h step.choice x.link x.message)
  where
    poll-link : (t : Sort) → fits t PollMsg ≡ true → t ≡ Poll
    poll-link Poll e = refl
    poll-link _ e = absurd cc

    of_message : (m : Message) → x.message ≡ m → on_link r.dump step.puts ≡ on_link r.dump (dump_puts s.net u (suc (length h)) m) → (on_link r.dump step.puts ≡ []) ⊎ ((step.choice ≡ choice_of s.net r.poll) × (length (on_link r.dump step.puts) ≤ 1))
    of_message PollMsg e p = let t : (link_of s.net x.link).sort ≡ Poll = poll-link (link_of s.net x.link).sort (ap (fits_link s.net x.link) (sym e) ∙ fit-last s u step h f x) in
        let n = ap length (p ∙ ap (λ ls. on_link r.dump (send_all (DumpMsg (suc (length h))) ls)) r.dumps ∙ on-one r.dump (DumpMsg (suc (length h)))) in
        inr (r.poll_choice step.choice x.link x.into t, omega (arith, n))
    of_message _ e p = inl p

unit-dumps : (s : Setup) (u : ℕ) (i : UnitId) (r : Reports s.net u) (h : History) → actor_of s.net u ≡ OfUnit i → IsMade s u h → TakesFit s u h → length (put r.dump h) ≤ taken (choice_of s.net r.poll) h
unit-dumps s u i r [] q m f = omega arith
unit-dumps s u i r (step ∷ h) q m f = by_step (unit-dumps s u i r h q m.1 (fit-before s u step h f)) (unit-step s u i r step h q f m.0)
  where
    more : length (put r.dump (step ∷ h)) ≡ length (put r.dump h) + length (on_link r.dump step.puts)
    more = length-append (put r.dump h) (on_link r.dump step.puts)

    by_step : length (put r.dump h) ≤ taken (choice_of s.net r.poll) h → (on_link r.dump step.puts ≡ []) ⊎ ((step.choice ≡ choice_of s.net r.poll) × (length (on_link r.dump step.puts) ≤ 1))
        → length (put r.dump (step ∷ h)) ≤ taken (choice_of s.net r.poll) (step ∷ h)
    by_step ih (inl e) = let z = ap length e in omega (arith, ih, more, z, taken-falls (choice_of s.net r.poll) step h)
    by_step ih (inr e) = let t = taken-this (choice_of s.net r.poll) step h e.0 in let o = e.1 in omega (arith, ih, more, t, o)

-- What was taken of a link was put there.

lost-le : (lost : ℕ → Bool) (n : ℕ) (ms : List Message) → length (without_lost lost n ms) ≤ length ms
lost-le lost n [] = omega arith
lost-le lost n (m ∷ ms) = by_bool (lost (suc n)) (lost-le lost (suc n) ms)
  where
    by_bool : (b : Bool) → length (without_lost lost (suc n) ms) ≤ length ms → length (if b then without_lost lost (suc n) ms else m ∷ without_lost lost (suc n) ms) ≤ suc (length ms)
    by_bool true e = omega (arith, e)
    by_bool false e = omega (arith, e)

taken-le : (s : Setup) (lost : Losses) (w : World) (a c l : ℕ) → IsFifoRun s lost w → slice_get (links_into s.net a) c ≡ Some l → taken c (history w a) ≤ length (put l (history w (link_of s.net l).from))
taken-le s lost w a c l r k = let f = r.fifo a c l k in let e = ap length f.split in let n = length-append (takes c (history w a)) f.rest in let d = f.count in
    omega (arith, e, n, d, lost-le (lost l) 0 (put l (history w (link_of s.net l).from)))

-- Dumps taken, dumps put, polls taken, polls put.

dumps-le : (s : Setup) (lost : Losses) (w : World) (u : ℕ) (i : UnitId) (r : Reports s.net u) → IsFifoRun s lost w → actor_of s.net u ≡ OfUnit i → length (put r.dump (history w u)) ≤ length (put r.poll (history w r.control))
dumps-le s lost w u i r x q = let a = unit-dumps s u i r (history w u) q (x.made u) (fit-taken s lost w u x) in
    let b = taken-le s lost w u (choice_of s.net r.poll) r.poll x r.poll_taken in let e = ap (λ a. length (put r.poll (history w a))) r.poll_from in omega (arith, a, b, e)

control-le : (s : Setup) (lost : Losses) (w : World) (u : ℕ) (i : UnitId) (r : Reports s.net u) → IsFifoRun s lost w → actor_of s.net u ≡ OfUnit i → taken (choice_of s.net r.dump) (history w r.control) ≤ length (put r.poll (history w r.control))
control-le s lost w u i r x q = let a = taken-le s lost w r.control (choice_of s.net r.dump) r.dump x (dumps-into s.net u r) in
    let e = ap (λ a. length (put r.dump (history w a))) r.dump_out.from in omega (arith, a, e, dumps-le s lost w u i r x q)

-- a dump on its way was asked for
control-lt : (s : Setup) (lost : Losses) (w : World) (u : ℕ) (i : UnitId) (r : Reports s.net u) (m : Message) → IsFifoRun s lost w → actor_of s.net u ≡ OfUnit i
    → slice_get (carried s.net lost w r.dump) (taken (choice_of s.net r.dump) (history w r.control)) ≡ Some m → taken (choice_of s.net r.dump) (history w r.control) < length (put r.poll (history w r.control))
control-lt s lost w u i r m x q g = let a = slice_get_within (carried s.net lost w r.dump) (taken (choice_of s.net r.dump) (history w r.control)) m g in
    let b = lost-le (lost r.dump) 0 (put r.dump (history w (link_of s.net r.dump).from)) in
    let e = ap (λ a. length (put r.dump (history w a))) r.dump_out.from in omega (arith, a, b, e, dumps-le s lost w u i r x q)

-- Of each unit that a control plane serves.

pub is-served : (net : Net) (a l : ℕ) → IsWired net → IsOut net a Poll l → IsServed net a l
is-served net a l n o = of_unit (n.poll_to l o.is_link o.sort)
  where
    of_reports : (i : UnitId) → actor_of net (link_of net l).to ≡ OfUnit i → Reports net (link_of net l).to → IsServed net a l
    of_reports i q r = let p : l ≡ r.poll = r.polled l refl o.sort in let e : a ≡ r.control = sym o.from ∙ ap (λ l. (link_of net l).from) p ∙ r.poll_from in record {
      unit = i;
      is_unit = q;
      reports = r;
      control = e;
      poll = p;
      dump = ap (λ b. choice_from net b (link_of net l).to Dump) e ∙ r.dump_choice;
    }

    of_unit : ((i : UnitId) × (actor_of net (link_of net l).to ≡ OfUnit i)) → IsServed net a l
    of_unit i = of_reports i.0 i.1 (n.reports (link_of net l).to i.0 i.1)

asked-now : (s : Setup) (lost : Losses) (w : World) (a d l : ℕ) → IsWired s.net → IsFifoRun s lost w → actor_of s.net a ≡ Control d → IsOut s.net a Poll l → IsAsked (serving s.net a l) (history w a)
asked-now s lost w a d l n x q o = of_served (is-served s.net a l n o)
  where
    of_served : IsServed s.net a l → IsAsked (serving s.net a l) (history w a)
    of_served v = record {
      answered = let b = control-le s lost w (link_of s.net l).to v.unit v.reports x v.is_unit in
          subst (λ b. taken (serving s.net a l).dump (history w b) ≤ length (put l (history w b))) (sym v.control)
          (subst (λ c. taken c (history w v.reports.control) ≤ length (put l (history w v.reports.control))) (sym v.dump)
          (subst (λ k. taken (choice_of s.net v.reports.dump) (history w v.reports.control) ≤ length (put k (history w v.reports.control))) (sym v.poll) b));
      one = one-poll s a d l (history w a) q (n.ways.listed a Poll l o) (x.made a);
    }

pub all-asked : (s : Setup) (lost : Losses) (w : World) (a d : ℕ) → IsWired s.net → IsFifoRun s lost w → actor_of s.net a ≡ Control d → Each (λ v. IsAsked v (history w a)) (served s.net a)
all-asked s lost w a d n x q = each-map (λ v. IsAsked v (history w a)) (serving s.net a) (links_out s.net a Poll)
    (each-imp (IsOut s.net a Poll) (λ l. IsAsked (serving s.net a l) (history w a)) (links_out s.net a Poll) (λ l o. asked-now s lost w a d l n x q o) (n.ways.outs a Poll))

-- What a control plane takes next by a choice of dumps was asked for.

asked-next : (s : Setup) (lost : Losses) (w : World) (a l : ℕ) (step : Step) → IsFifoRun s lost w → IsServed s.net a l → Takes s lost w a step ⊎ Acts s w a step → step.choice ≡ (serving s.net a l).dump → is_outstanding (serving s.net a l) (history w a) ≡ true
asked-next s lost w a l step x v t c = lt-ltb (taken (serving s.net a l).dump (history w a)) (length (put l (history w a)))
    (subst (λ b. taken (serving s.net a l).dump (history w b) < length (put l (history w b))) (sym v.control)
    (subst (λ d. taken d (history w v.reports.control) < length (put l (history w v.reports.control))) (sym v.dump)
    (subst (λ k. taken (choice_of s.net v.reports.dump) (history w v.reports.control) < length (put k (history w v.reports.control))) (sym v.poll) (of_step t))))
  where
    at : step.choice ≡ choice_of s.net v.reports.dump
    at = c ∙ v.dump

    into : slice_get (links_into s.net a) step.choice ≡ Some v.reports.dump
    into = ap (slice_get (links_into s.net a)) at ∙ ap (λ b. slice_get (links_into s.net b) (choice_of s.net v.reports.dump)) v.control ∙ dumps-into s.net (link_of s.net l).to v.reports

    of_step : Takes s lost w a step ⊎ Acts s w a step → taken (choice_of s.net v.reports.dump) (history w v.reports.control) < length (put v.reports.poll (history w v.reports.control))
    of_step (inr y) = absurd (let e : None ≡ Some v.reports.dump = sym y.acted.past ∙ into in cc)
    of_step (inl y) = let e : y.took.link ≡ v.reports.dump = of_some (sym y.took.into ∙ into) in
        control-lt s lost w (link_of s.net l).to v.unit v.reports y.took.message x v.is_unit
        (ap (λ k. slice_get (carried s.net lost w k) (taken (choice_of s.net v.reports.dump) (history w v.reports.control))) (sym e)
        ∙ ap (λ d. slice_get (carried s.net lost w y.took.link) (taken d (history w v.reports.control))) (sym at) ∙ ap (λ b. slice_get (carried s.net lost w y.took.link) (taken step.choice (history w b))) (sym v.control) ∙ y.found)
      where
        of_some : {x y : ℕ} → Some x ≡ Some y → x ≡ y
        of_some e = cc

pub next-asked : (s : Setup) (lost : Losses) (w : World) (a : ℕ) (step : Step) → IsWired s.net → IsFifoRun s lost w → Takes s lost w a step ⊎ Acts s w a step → Each (λ v. step.choice ≡ v.dump → is_outstanding v (history w a) ≡ true) (served s.net a)
next-asked s lost w a step n x t = each-map (λ v. step.choice ≡ v.dump → is_outstanding v (history w a) ≡ true) (serving s.net a) (links_out s.net a Poll)
    (each-imp (IsOut s.net a Poll) (λ l. step.choice ≡ (serving s.net a l).dump → is_outstanding (serving s.net a l) (history w a) ≡ true) (links_out s.net a Poll)
    (λ l o. asked-next s lost w a l step x (is-served s.net a l n o) t) (n.ways.outs a Poll))

-- For each dump one Done.

abbrev dones : ℕ → ℕ → List Put → List ℕ
dones place l ps = numbers (done_of place) (on_link l ps)

dones-append : (place l : ℕ) (ps qs : List Put) → dones place l (ps ++ qs) ≡ dones place l ps ++ dones place l qs
dones-append place l ps qs = ap (numbers (done_of place)) (on-append l ps qs) ∙ numbers-append (done_of place) (on_link l ps) (on_link l qs)

dones-none : (place l : ℕ) (ps : List Put) → Each (λ p. done_of place p.message ≡ None) ps → dones place l ps ≡ []
dones-none place l [] e = refl
dones-none place l (p ∷ ps) e = by_bool (p.link == l) (dones-none place l ps e.1)
  where
    by_bool : (b : Bool) → dones place l ps ≡ [] → numbers (done_of place) (if b then p.message ∷ on_link l ps else on_link l ps) ≡ []
    by_bool true ih = ap (λ o. listed o ++ numbers (done_of place) (on_link l ps)) e.0 ∙ ih
    by_bool false ih = ih

no-done : (place l : ℕ) (m : Message) (ls : List ℕ) → done_of place m ≡ None → dones place l (send_all m ls) ≡ []
no-done place l m ls h = dones-none place l (send_all m ls) (each-map (λ p. done_of place p.message ≡ None) (send m) ls (each-of (λ k. done_of place m ≡ None) ls (λ k x. h)))

no-dones : (place l : ℕ) (f : ServedUnit → List Put) (vs : List ServedUnit) → ((v : ServedUnit) → dones place l (f v) ≡ []) → dones place l (flat_map f vs) ≡ []
no-dones place l f [] h = refl
no-dones place l f (v ∷ vs) h = dones-append place l (f v) (flat_map f vs) ∙ ap (λ r. r ++ dones place l (flat_map f vs)) (h v) ∙ no-dones place l f vs h

polls-none : (place l : ℕ) (v : ServedUnit) (h : History) → dones place l (poll_puts v h) ≡ []
polls-none place l v h = by_bool (is_outstanding v h)
  where
    by_bool : (b : Bool) → dones place l (if b then [] else send PollMsg v.poll ∷ []) ≡ []
    by_bool true = refl
    by_bool false = dones-none place l (send PollMsg v.poll ∷ []) (refl, tt)

again-none : (place l : ℕ) (b : Bool) (k : ℕ) → dones place l (if b then send PollMsg k ∷ [] else []) ≡ []
again-none place l true k = dones-none place l (send PollMsg k ∷ []) (refl, tt)
again-none place l false k = refl

-- an answer tells of its own unit alone
answer-dones : (net : Net) (a n place l : ℕ) (h : History) (v : ServedUnit) → dones place l (dump_answer net a h n v) ≡ dones place l (send_all (DoneMsg (unit_place net v.unit) n) (links_out net a Done))
answer-dones net a n place l h v = dones-append place l (send_all (DoneMsg (unit_place net v.unit) n) (links_out net a Done)) (if is_again (action_choice net a) v h then send PollMsg v.poll ∷ [] else [])
    ∙ ap (λ r. dones place l (send_all (DoneMsg (unit_place net v.unit) n) (links_out net a Done)) ++ r) (again-none place l (is_again (action_choice net a) v h) v.poll) ∙ append-nil (dones place l (send_all (DoneMsg (unit_place net v.unit) n) (links_out net a Done)))

when-none : (place l : ℕ) (b : Bool) (ps : List Put) → dones place l ps ≡ [] → dones place l (if b then ps else []) ≡ []
when-none place l true ps e = e
when-none place l false ps e = refl

done-here : (net : Net) (a l place n : ℕ) → links_out net a Done ≡ l ∷ [] → dones place l (send_all (DoneMsg place n) (links_out net a Done)) ≡ n ∷ []
done-here net a l place n e = ap (λ ls. dones place l (send_all (DoneMsg place n) ls)) e ∙ ap (numbers (done_of place)) (on-one l (DoneMsg place n)) ∙ ap (λ b. listed (if b then Some n else None) ++ []) (eq-eqb place place refl)

control-dones : (net : Net) (u : ℕ) (i : UnitId) (r : Reports net u) (h : History) (c n : ℕ) → actor_of net u ≡ OfUnit i
    → dones (unit_place net u) r.done (flat_map (λ v. if c == v.dump then dump_answer net r.control h n v else []) (served net r.control)) ≡ (if c == choice_of net r.dump then n ∷ [] else [])
control-dones net u i r h c n q = ap (dones (unit_place net u) r.done) (flat-map-one (λ v. if c == v.dump then dump_answer net r.control h n v else []) (serving net r.control) (links_out net r.control Poll))
    ∙ own (dones (unit_place net u) r.done) refl (dones-append (unit_place net u) r.done) (λ x. if c == (serving net r.control x).dump then dump_answer net r.control h n (serving net r.control x) else [])
    r.poll (links_out net r.control Poll) (distinct-out net r.control Poll) r.poll_listed others
    ∙ ap (λ d. dones (unit_place net u) r.done (if c == d then dump_answer net r.control h n (serving net r.control r.poll) else [])) dump_is ∙ by_bool (c == choice_of net r.dump)
  where
    dump_is : (serving net r.control r.poll).dump ≡ choice_of net r.dump
    dump_is = ap (λ x. choice_from net r.control x Dump) r.poll_to ∙ r.dump_choice

    other : (x : ℕ) → IsOut net r.control Poll x → (x ≡ r.poll → ⊥) → done_of (unit_place net u) (DoneMsg (unit_place net (link_of net x).to) n) ≡ None
    other x o ne = ap (λ b. if b then Some n else None) (ne_eqb (unit_place net u) (unit_place net (link_of net x).to) (λ e. ne (r.polled x (r.one_unit (link_of net x).to (sym e)) o.sort)))

    others : (x : ℕ) → Member x (links_out net r.control Poll) → (x ≡ r.poll → ⊥) → dones (unit_place net u) r.done (if c == (serving net r.control x).dump then dump_answer net r.control h n (serving net r.control x) else []) ≡ []
    others x m ne = when-none (unit_place net u) r.done (c == (serving net r.control x).dump) (dump_answer net r.control h n (serving net r.control x))
        (answer-dones net r.control n (unit_place net u) r.done h (serving net r.control x) ∙ no-done (unit_place net u) r.done (DoneMsg (unit_place net (link_of net x).to) n) (links_out net r.control Done)
        (other x (each-at (IsOut net r.control Poll) x (links_out net r.control Poll) r.polls m) ne))

    by_bool : (b : Bool) → dones (unit_place net u) r.done (if b then dump_answer net r.control h n (serving net r.control r.poll) else []) ≡ (if b then n ∷ [] else [])
    by_bool true = answer-dones net r.control n (unit_place net u) r.done h (serving net r.control r.poll)
        ∙ ap (λ x. dones (unit_place net u) r.done (send_all (DoneMsg (unit_place net x) n) (links_out net r.control Done))) r.poll_to ∙ done-here net r.control r.done (unit_place net u) n r.dones
    by_bool false = refl

-- what a step told of the unit is what it took of its dumps
dones-step : (s : Setup) (u : ℕ) (i : UnitId) (r : Reports s.net u) (step : Step) (h : History) → actor_of s.net u ≡ OfUnit i → Took s r.control h step ⊎ Acted s r.control h step
    → dones (unit_place s.net u) r.done step.puts ≡ numbers dump_of (if step.choice == choice_of s.net r.dump then listed step.taken else [])
dones-step s u i r step h q (inr x) = of_choice (step.choice - action_choice s.net r.control) (acted-by s r.control h step (Control r.device) r.is_control x) ∙ sym (nothing (step.choice == choice_of s.net r.dump))
  where
    nothing : (b : Bool) → numbers dump_of (if b then listed step.taken else []) ≡ []
    nothing true = ap (λ o. numbers dump_of (listed o)) x.taken
    nothing false = refl

    of_guard : (b : Bool) → guarded b (flat_map (λ v. poll_puts v h) (served s.net r.control)) ≡ Some step.puts → dones (unit_place s.net u) r.done step.puts ≡ []
    of_guard true e = let p : flat_map (λ v. poll_puts v h) (served s.net r.control) ≡ step.puts = cc in
        ap (dones (unit_place s.net u) r.done) (sym p) ∙ no-dones (unit_place s.net u) r.done (λ v. poll_puts v h) (served s.net r.control) (λ v. polls-none (unit_place s.net u) r.done v h)
    of_guard false e = absurd cc

    of_choice : (n : ℕ) → action s x.floor r.control (Control r.device) h n ≡ Some step.puts → dones (unit_place s.net u) r.done step.puts ≡ []
    of_choice zero e = of_guard (not (is_swept s.net r.control h)) e
    of_choice (suc n) e = absurd cc
dones-step s u i r step h q (inl x) = ap (dones (unit_place s.net u) r.done) (took-by s r.control h step (Control r.device) r.is_control x) ∙ of_message x.message ∙ sym (ap (λ o. numbers dump_of (if step.choice == choice_of s.net r.dump then listed o else [])) x.taken)
  where
    no-dump : (m : Message) → dump_of m ≡ None → (b : Bool) → [] ≡ numbers dump_of (if b then m ∷ [] else [])
    no-dump m e true = sym (ap (λ o. listed o ++ []) e)
    no-dump m e false = refl

    a-dump : (n : ℕ) (b : Bool) → (if b then n ∷ [] else []) ≡ numbers dump_of (if b then DumpMsg n ∷ [] else [])
    a-dump n true = refl
    a-dump n false = refl

    of_message : (m : Message) → dones (unit_place s.net u) r.done (control_puts s.net r.control h step.choice m) ≡ numbers dump_of (if step.choice == choice_of s.net r.dump then m ∷ [] else [])
    of_message (BeginMsg k) = no-done (unit_place s.net u) r.done (InitMsg k) (links_out s.net r.control Init) refl ∙ no-dump (BeginMsg k) refl (step.choice == choice_of s.net r.dump)
    of_message NoticeMsg = no-dones (unit_place s.net u) r.done (λ v. if step.choice == v.notice then poll_puts v h else []) (served s.net r.control)
        (λ v. when-none (unit_place s.net u) r.done (step.choice == v.notice) (poll_puts v h) (polls-none (unit_place s.net u) r.done v h)) ∙ no-dump NoticeMsg refl (step.choice == choice_of s.net r.dump)
    of_message (DumpMsg n) = control-dones s.net u i r h step.choice n q ∙ a-dump n (step.choice == choice_of s.net r.dump)
    of_message (HostMsg b) = no-dump (HostMsg b) refl (step.choice == choice_of s.net r.dump)
    of_message (Data k p) = no-dump (Data k p) refl (step.choice == choice_of s.net r.dump)
    of_message (ProbeMsg k) = no-dump (ProbeMsg k) refl (step.choice == choice_of s.net r.dump)
    of_message (InitMsg k) = no-dump (InitMsg k) refl (step.choice == choice_of s.net r.dump)
    of_message PollMsg = no-dump PollMsg refl (step.choice == choice_of s.net r.dump)
    of_message (DoneMsg v n) = no-dump (DoneMsg v n) refl (step.choice == choice_of s.net r.dump)

pub dones-are : (s : Setup) (u : ℕ) (i : UnitId) (r : Reports s.net u) (h : History) → actor_of s.net u ≡ OfUnit i → IsMade s r.control h
    → numbers (done_of (unit_place s.net u)) (put r.done h) ≡ numbers dump_of (takes (choice_of s.net r.dump) h)
dones-are s u i r [] q m = refl
dones-are s u i r (step ∷ h) q m = numbers-append (done_of (unit_place s.net u)) (put r.done h) (on_link r.done step.puts)
    ∙ (λ j. dones-are s u i r h q m.1 j ++ dones-step s u i r step h q m.0 j) ∙ sym (numbers-append dump_of (takes (choice_of s.net r.dump) h) (if step.choice == choice_of s.net r.dump then listed step.taken else []))

-- Where nothing is lost on reliable links, the observer takes them in order.

pub lost-none : (lost : ℕ → Bool) (n : ℕ) (ms : List Message) → ((k : ℕ) → lost k ≡ false) → without_lost lost n ms ≡ ms
lost-none lost n [] h = refl
lost-none lost n (m ∷ ms) h = ap (λ b. if b then without_lost lost (suc n) ms else m ∷ without_lost lost (suc n) ms) (h (suc n)) ∙ ap (λ r. m ∷ r) (lost-none lost (suc n) ms h)

pub dones-taken : (s : Setup) (lost : Losses) (w : World) (u : ℕ) (i : UnitId) (r : Reports s.net u) → IsFifoRun s lost w → IsLossTable s.net lost → actor_of s.net u ≡ OfUnit i
    → numbers (done_of (unit_place s.net u)) (takes (choice_of s.net r.done) (observer w) ++ on_way s.net lost w r.done) ≡ numbers dump_of (takes (choice_of s.net r.dump) (history w r.control))
dones-taken s lost w u i r x t q = let o = r.done_out in
    ap (λ ms. numbers (done_of (unit_place s.net u)) (takes (choice_of s.net r.done) (observer w) ++ ms)) (on-way-is s.net lost w 0 (choice_of s.net r.done) r.done (dones-into s.net u r) (x.fifo 0 (choice_of s.net r.done) r.done (dones-into s.net u r)))
    ∙ ap (numbers (done_of (unit_place s.net u))) (sym (x.fifo 0 (choice_of s.net r.done) r.done (dones-into s.net u r)).split
    ∙ lost-none (lost r.done) 0 (put r.done (history w (link_of s.net r.done).from)) (λ k. t r.done k (ap kind_of o.sort)) ∙ ap (λ a. put r.done (history w a)) o.from)
    ∙ dones-are s u i r (history w r.control) q (x.made r.control)
