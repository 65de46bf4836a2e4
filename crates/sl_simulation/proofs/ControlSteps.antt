-- The links by which a control plane is joined to its units, and what a step makes of what it knows of each.
use Rattle.std.proofs.Common.{◌≡◌, ℕ, zero, suc, ◌+◌, List, [], ◌∷◌, refl, sym, ap, subst, ◌∙◌, Some, None, arith, get_or, inl, inr, Option, map, eq-eqb, ◌≤◌, length}
use Rattle.std.specs.Prelude.{true, false, Bool, nat_eq, ◌⊎◌, if◌then◌else◌, slice_get, slice_index, cond, ◌==◌, ◌&&◌, flat_map}
use Rattle.std.proofs.lemmas.Bool.Decides.{eqb_tells}
use Rattle.std.proofs.lemmas.Bool.{and_from}
use Rattle.sl_layout.specs.declared.actor.ActorId.TheVariants.{Control, Unit as OfUnit}
use Rattle.sl_layout.specs.declared.actor.Sort.{Sort}
use Rattle.sl_layout.specs.declared.actor.Sort.TheVariants.{Notice, Dump, Begin, Init, Poll, Done}
use Rattle.sl_net.specs.Wired.{IsWired, receives}
use Rattle.sl_layout.specs.Net.{Net, actor_of, link_of, links_into, choice_of, place_in, units, unit_place, links_out, action_choice}
use Rattle.sl_layout.specs.Serving.{serving, ServedUnit, served}
use Rattle.sl_parts.specs.Lists.{Member, Each}
use Rattle.sl_net.specs.Ways.{IsOut}
use Rattle.sl_control.specs.Wires.{control_of, unit_wires, unheard, control_wires, first_control}
use Rattle.sl_model.specs.declared.message.Message.{Message}
use Rattle.sl_model.specs.declared.message.Message.TheVariants.{Notice as NoticeMsg, Dump as DumpMsg, Begin as BeginMsg, Init as InitMsg}
use Rattle.sl_model.specs.Fit.{fits}
use Rattle.sl_model.proofs.Saved.Polls.{IsServed, send-off, own-link, polls-else, again-else, if-off, answer-on, is-served}
use Rattle.sl_net.proofs.Sorts.{place-ge}
use Rattle.sl_wire.specs.declared.message.Dump.{Dump as UnitDump}
use Rattle.sl_wire.specs.Sizes.{Sizes, lengths}
use Rattle.sl_control.specs.declared.known.Known.{Known}
use Rattle.sl_control.specs.Control.{asked, ask_by, ask_puts, numbers_told, is_taken, takes_dump, dump_by, dump_puts, answered, answer_by, ControlState}
use Rattle.sl_model.specs.declared.message.Put.{Put}
use Rattle.sl_model.specs.declared.message.Step.{Step}
use Rattle.sl_parts.proofs.Lists.{each-of, each-at}
use Rattle.sl_model.specs.History.{History, history, first, on_link, World, Losses}
use Rattle.sl_model.specs.Knowledge.{told_of, is_outstanding, asks, is_again, dumped}
use Rattle.sl_model.specs.Puts.{send_all, poll_puts, dump_answer, control_puts}
use Rattle.sl_model.specs.World.{start, Entry, turn, world}
use Rattle.sl_model.specs.Polls.{IsAsked}
use Rattle.sl_model.specs.Turns.{TakesTurns}
use Rattle.sl_simulation.specs.Messages.{AreSent}
use Rattle.sl_simulation.specs.ControlImage.{known_of, IsControlOf, told_at, known_by, GrowsBy}
use Rattle.sl_model.specs.Setup.{Setup}
use Rattle.sl_model.specs.Made.{IsFifoRun}
use Rattle.sl_model.specs.Reported.{AreReported}
use Rattle.sl_simulation.proofs.ControlUnits.{seen, unheard-is, still, asked-is, dumped-is}
use Rattle.sl_simulation.proofs.ControlTells.{Tells, answered-is, done-is, taken-is, sent-each, flat-map, sent-if, sent-polls, sent-answer}

-- The control plane of a device.

pub control-place : (net : Net) (a d : ℕ) → IsWired net → actor_of net a ≡ Control d → control_of net d ≡ a
control-place net a d w q = w.numbered a (Control d) q (λ e. cc)

-- The unit at its place.

place-get : (n x : ℕ) (ys : List ℕ) (i : ℕ) → Member x ys → place_in n x ys ≡ n + i → get_or ys i 0 ≡ x
place-get n x [] i m e = absurd m
place-get n x (y ∷ ys) i m e = by_tells (λ i m e. place-get (suc n) x ys i m e) i e m (eqb_tells y x)
  where
    by_tells : ((i : ℕ) → Member x ys → place_in (suc n) x ys ≡ suc n + i → get_or ys i 0 ≡ x) → (i : ℕ) → place_in n x (y ∷ ys) ≡ n + i → (x ≡ y) ⊎ Member x ys
        → ((nat_eq y x ≡ true) × (y ≡ x)) ⊎ ((nat_eq y x ≡ false) × (y ≡ x → ⊥)) → get_or (y ∷ ys) i 0 ≡ x
    by_tells ih zero e m (inl q) = q.1
    by_tells ih (suc i) e m (inl q) = absurd (let z : n ≡ n + suc i = sym (ap (λ b. if b then n else place_in (suc n) x ys) q.0) ∙ e in omega (arith, z))
    by_tells ih zero e m (inr q) = absurd (let z : place_in (suc n) x ys ≡ n + 0 = sym (ap (λ b. if b then n else place_in (suc n) x ys) q.0) ∙ e in omega (arith, z, place-ge (suc n) x ys))
    by_tells ih (suc i) e (inl m) (inr q) = absurd (q.1 (sym m))
    by_tells ih (suc i) e (inr m) (inr q) = let z : place_in (suc n) x ys ≡ n + suc i = sym (ap (λ b. if b then n else place_in (suc n) x ys) q.0) ∙ e in ih i m (omega (arith, z))

pub unit-at : (net : Net) (u : ℕ) → Member u (units net) → slice_index (units net) (unit_place net u) ≡ u
unit-at net u m = place-get 0 u (units net) (unit_place net u) m (omega arith)

-- Choices.

of_some : {x y : ℕ} → Some x ≡ Some y → x ≡ y
of_some e = cc

dump-into : (net : Net) (a l c : ℕ) → (v : IsServed net a l) → c ≡ (serving net a l).dump → slice_get (links_into net a) c ≡ Some v.reports.dump
dump-into net a l c v e = ap (slice_get (links_into net a)) (e ∙ v.dump) ∙ ap (λ b. slice_get (links_into net b) (choice_of net v.reports.dump)) v.control ∙ v.reports.dump_taken

-- what is taken by the choice of a unit's dumps comes on its link of dumps
pub dump-from : (net : Net) (a l c k : ℕ) → IsServed net a l → slice_get (links_into net a) c ≡ Some k → c ≡ (serving net a l).dump → IsOut net (link_of net l).to Dump k
dump-from net a l c k v i e = subst (IsOut net (link_of net l).to Dump) (of_some (sym (dump-into net a l c v e) ∙ i)) v.reports.dump_out

-- an action is no such choice
pub no-dump : (net : Net) (a l c : ℕ) → IsServed net a l → slice_get (links_into net a) c ≡ None → c ≡ (serving net a l).dump → ⊥
no-dump net a l c v i e = let z : Some v.reports.dump ≡ None = sym (dump-into net a l c v e) ∙ i in cc

-- Messages.

-- what comes to a control plane
abbrev pub is_heard : Message → Bool
is_heard (BeginMsg k) = true
is_heard NoticeMsg = true
is_heard (DumpMsg n) = true
is_heard _ = false

pub heard : (d : ℕ) (t : Sort) (m : Message) → receives (Control d) t ≡ true → fits t m ≡ true → is_heard m ≡ true
heard d Begin (BeginMsg k) r f = refl
heard d Begin _ r f = absurd cc
heard d Notice NoticeMsg r f = refl
heard d Notice _ r f = absurd cc
heard d Dump (DumpMsg n) r f = refl
heard d Dump _ r f = absurd cc
heard d _ m r f = absurd cc

pub begin-sort : (t : Sort) (k : ℕ) → fits t (BeginMsg k) ≡ true → t ≡ Begin
begin-sort Begin k f = refl
begin-sort _ k f = absurd cc

pub notice-sort : (t : Sort) → fits t NoticeMsg ≡ true → t ≡ Notice
notice-sort Notice f = refl
notice-sort _ f = absurd cc

pub starts : TakesTurns → (net : Net) (a : ℕ) (sizes : Sizes) → IsControlOf net sizes (history (start net)) a (first_control net a sizes)
starts turns net a sizes = record { wires = refl; units = each (served net a) }
  where
    one : (v : ServedUnit) → unheard (unit_wires net v) ≡ known_of net (history (start net)) a v
    one v = sym (unheard-is net (action_choice net a) v) ∙ sym (λ i. seen net (action_choice net a) v (turns.starts net a i) (turns.starts net v.unit i))

    each : (vs : List ServedUnit) → map (λ v. unheard (unit_wires net v)) vs ≡ map (known_of net (history (start net)) a) vs
    each [] = refl
    each (v ∷ vs) = λ i. one v i ∷ each vs i

-- Of each unit.

pub each-unmap : {A B : Type 0} (P : B → Type 0) (f : A → B) (xs : List A) → Each P (map f xs) → Each (λ x. P (f x)) xs
each-unmap P f [] h = tt
each-unmap P f (x ∷ xs) h = (h.0, each-unmap P f xs h.1)

pub units-are : (f : Known → Known) (g i : ServedUnit → Known) (vs : ℕ → ServedUnit) (ls : List ℕ) → Each (λ l. f (g (vs l)) ≡ i (vs l)) ls → map f (map g (map vs ls)) ≡ map i (map vs ls)
units-are f g i vs [] h = refl
units-are f g i vs (l ∷ ls) h = let x = h.0 in let y = units-are f g i vs ls h.1 in λ j. x j ∷ y j

pub same-units : (g i : ServedUnit → Known) (vs : ℕ → ServedUnit) (ls : List ℕ) → Each (λ l. g (vs l) ≡ i (vs l)) ls → map g (map vs ls) ≡ map i (map vs ls)
same-units g i vs [] h = refl
same-units g i vs (l ∷ ls) h = let x = h.0 in let y = same-units g i vs ls h.1 in λ j. x j ∷ y j

pub served-at : (net : Net) (a l : ℕ) → IsWired net → Member l (links_out net a Poll) → IsServed net a l
served-at net a l z m = is-served net a l z (each-at (IsOut net a Poll) l (links_out net a Poll) (z.ways.outs a Poll) m)

not-control : (net : Net) (a d l : ℕ) → actor_of net a ≡ Control d → IsServed net a l → (link_of net l).to ≡ a → ⊥
not-control net a d l q v e = let x : OfUnit v.unit ≡ Control d = sym v.is_unit ∙ ap (actor_of net) e ∙ q in cc

-- what is known of a unit after a step of its control plane
after-is : (net : Net) (us ws : ℕ → History) (a d l : ℕ) (step : Step) → actor_of net a ≡ Control d → IsServed net a l → GrowsBy us ws a step
    → seen net (action_choice net a) (serving net a l) (step ∷ us a) (us (link_of net l).to) ≡ known_of net ws a (serving net a l)
after-is net us ws a d l step q v t = let x = t.same in let y = t.other (link_of net l).to (not-control net a d l q v) in
    sym (λ i. seen net (action_choice net a) (serving net a l) (x i) (y i))

-- A Begin.

pub begin-one : (net : Net) (us ws : ℕ → History) (a d l k b : ℕ) (step : Step) → IsWired net → actor_of net a ≡ Control d → GrowsBy us ws a step → Member l (links_out net a Poll) → slice_get (links_into net a) step.choice ≡ Some k → (link_of net k).sort ≡ Begin
    → step.taken ≡ Some (BeginMsg b) → step.puts ≡ send_all (InitMsg b) (links_out net a Init) → known_of net us a (serving net a l) ≡ known_of net ws a (serving net a l)
begin-one net us ws a d l k b step z q t m i o e p = let v = served-at net a l z m in
    sym (still net (action_choice net a) (serving net a l) step (us a) (us (link_of net l).to) (λ c. let x : Begin ≡ Dump = sym o ∙ (dump-from net a l step.choice k v i c).sort in cc)
    (ap (λ y. asked-by y) e) (ap (on_link l) p ∙ send-off net a l Init (InitMsg b) (λ y. let x : Poll ≡ Init = sym (each-at (IsOut net a Poll) l (links_out net a Poll) (z.ways.outs a Poll) m).sort ∙ y in cc)))
    ∙ after-is net us ws a d l step q v t
  where
    asked-by : Option Message → Bool
    asked-by y = asks (action_choice net a) (serving net a l) step.choice y

-- A notice.

notice-puts : (net : Net) (a c l : ℕ) (h : History) (ps : List Put) → Member l (links_out net a Poll) → ps ≡ control_puts net a h c NoticeMsg
    → on_link l ps ≡ on_link l (if c == (serving net a l).notice then poll_puts (serving net a l) h else [])
notice-puts net a c l h ps m p = ap (on_link l) p ∙ own-link net a l (λ v. if c == v.notice then poll_puts v h else []) m
    (λ x ne. if-off (c == (serving net a x).notice) l (poll_puts (serving net a x) h) (polls-else (serving net a x) h l ne))

abbrev Tested : ℕ → ℕ → Type 0
Tested a b = ((nat_eq a b ≡ true) × (a ≡ b)) ⊎ ((nat_eq a b ≡ false) × (a ≡ b → ⊥))

pub notice-one : (net : Net) (us ws : ℕ → History) (a d l k : ℕ) (step : Step) → IsWired net → actor_of net a ≡ Control d → GrowsBy us ws a step → Member l (links_out net a Poll) → IsAsked (serving net a l) (us a)
    → slice_get (links_into net a) step.choice ≡ Some k → (link_of net k).sort ≡ Notice → step.taken ≡ Some NoticeMsg → step.puts ≡ control_puts net a (us a) step.choice NoticeMsg
    → ask_by (Some step.choice) (known_of net us a (serving net a l)) ≡ known_of net ws a (serving net a l)
notice-one net us ws a d l k step z q t m b i o e p = by_test (eqb_tells step.choice (serving net a l).notice)
  where
    v : IsServed net a l
    v = served-at net a l z m

    g : History
    g = us (link_of net l).to

    no-dumps : step.choice ≡ (serving net a l).dump → ⊥
    no-dumps c = let x : Notice ≡ Dump = sym o ∙ (dump-from net a l step.choice k v i c).sort in cc

    puts : on_link l step.puts ≡ on_link l (if step.choice == (serving net a l).notice then poll_puts (serving net a l) (us a) else [])
    puts = notice-puts net a step.choice l (us a) step.puts m p

    asking : asks (action_choice net a) (serving net a l) step.choice step.taken ≡ (step.choice == (serving net a l).notice)
    asking = ap (asks (action_choice net a) (serving net a l) step.choice) e

    by_test : Tested step.choice (serving net a l).notice → ask_by (Some step.choice) (known_of net us a (serving net a l)) ≡ known_of net ws a (serving net a l)
    by_test (inl x) = ap (λ b. cond b (asked (known_of net us a (serving net a l))) (known_of net us a (serving net a l))) x.0
        ∙ sym (asked-is net (action_choice net a) (serving net a l) step (us a) g no-dumps (asking ∙ x.0) (puts ∙ ap (λ b. on_link l (if b then poll_puts (serving net a l) (us a) else [])) x.0) b)
        ∙ after-is net us ws a d l step q v t
    by_test (inr x) = ap (λ b. cond b (asked (known_of net us a (serving net a l))) (known_of net us a (serving net a l))) x.0
        ∙ sym (still net (action_choice net a) (serving net a l) step (us a) g no-dumps (asking ∙ x.0) (puts ∙ ap (λ b. on_link l (if b then poll_puts (serving net a l) (us a) else [])) x.0))
        ∙ after-is net us ws a d l step q v t

pub notice-sent : (net : Net) (sizes : Sizes) (us ws : ℕ → History) (a c : ℕ) (vs : List ServedUnit)
    → AreSent net sizes ws a (told_at net us a) (flat_map (λ v. if c == v.notice then poll_puts v (us a) else []) vs) (flat_map (ask_puts (Some c)) (map (known_of net us a) vs))
notice-sent net sizes us ws a c vs = subst (AreSent net sizes ws a (told_at net us a) (flat_map (λ v. if c == v.notice then poll_puts v (us a) else []) vs)) (sym (flat-map (ask_puts (Some c)) (known_of net us a) vs))
    (sent-each net sizes ws a (told_at net us a) (λ v. if c == v.notice then poll_puts v (us a) else []) (λ v. ask_puts (Some c) (known_of net us a v)) vs
    (each-of (λ v. AreSent net sizes ws a (told_at net us a) (if c == v.notice then poll_puts v (us a) else []) (ask_puts (Some c) (known_of net us a v))) vs
    (λ v m. sent-if net sizes ws a (told_at net us a) (c == v.notice) (poll_puts v (us a)) _ (sent-polls net sizes us ws a (told_at net us a) v))))

-- A sweep.

pub sweep-one : (net : Net) (us ws : ℕ → History) (a d l : ℕ) (step : Step) → IsWired net → actor_of net a ≡ Control d → GrowsBy us ws a step → Member l (links_out net a Poll) → IsAsked (serving net a l) (us a)
    → slice_get (links_into net a) step.choice ≡ None → step.choice ≡ action_choice net a → step.taken ≡ None → step.puts ≡ flat_map (λ v. poll_puts v (us a)) (served net a)
    → ask_by None (known_of net us a (serving net a l)) ≡ known_of net ws a (serving net a l)
sweep-one net us ws a d l step z q t m b i c e p = let v = served-at net a l z m in
    sym (asked-is net (action_choice net a) (serving net a l) step (us a) (us (link_of net l).to) (no-dump net a l step.choice v i)
    (ap (asks (action_choice net a) (serving net a l) step.choice) e ∙ eq-eqb step.choice (action_choice net a) c)
    (ap (on_link l) p ∙ own-link net a l (λ v. poll_puts v (us a)) m (λ x ne. polls-else (serving net a x) (us a) l ne)) b)
    ∙ after-is net us ws a d l step q v t

pub sweep-sent : (net : Net) (sizes : Sizes) (us ws : ℕ → History) (a : ℕ) (vs : List ServedUnit)
    → AreSent net sizes ws a (told_at net us a) (flat_map (λ v. poll_puts v (us a)) vs) (flat_map (ask_puts None) (map (known_of net us a) vs))
sweep-sent net sizes us ws a vs = subst (AreSent net sizes ws a (told_at net us a) (flat_map (λ v. poll_puts v (us a)) vs)) (sym (flat-map (ask_puts None) (known_of net us a) vs))
    (sent-each net sizes ws a (told_at net us a) (λ v. poll_puts v (us a)) (λ v. ask_puts None (known_of net us a v)) vs
    (each-of (λ v. AreSent net sizes ws a (told_at net us a) (poll_puts v (us a)) (ask_puts None (known_of net us a v))) vs
    (λ v m. sent-polls net sizes us ws a (told_at net us a) v)))

-- A dump.

-- what holds of the unit whose dump comes
pub record Answers (net : Net) (sizes : Sizes) (us : ℕ → History) (a l n : ℕ) (d : UnitDump) : Type 0 where
  pub tells : Tells net sizes (serving net a l) (told_of us (serving net a l) (us a)) (first n (us (link_of net l).to)) d
  pub waits : is_outstanding (serving net a l) (us a) ≡ true

dump-puts : (net : Net) (a c l n : ℕ) (h : History) (ps : List Put) → Member l (links_out net a Poll) → ps ≡ control_puts net a h c (DumpMsg n)
    → on_link l ps ≡ on_link l (if c == (serving net a l).dump then dump_answer net a h n (serving net a l) else [])
dump-puts net a c l n h ps m p = ap (on_link l) p ∙ own-link net a l (λ v. if c == v.dump then dump_answer net a h n v else []) m
    (λ x ne. if-off (c == (serving net a x).dump) l (dump_answer net a h n (serving net a x)) (answer-on net a l n h (serving net a x) m ∙ again-else (is_again (action_choice net a) (serving net a x) h) x l ne))

takes-it : (net : Net) (sizes : Sizes) (us : ℕ → History) (a c l n : ℕ) (d : UnitDump) → Answers net sizes us a l n d → nat_eq c (serving net a l).dump ≡ true → takes_dump (lengths sizes) c d (known_of net us a (serving net a l)) ≡ true
takes-it net sizes us a c l n d x e = and_from _ _ e (taken-is net sizes (serving net a l) (told_of us (serving net a l) (us a)) (first n (us (link_of net l).to)) d (is_outstanding (serving net a l) (us a)) (is_again (action_choice net a) (serving net a l) (us a)) x.tells x.waits)

leaves-it : (net : Net) (sizes : Sizes) (us : ℕ → History) (a c l : ℕ) (d : UnitDump) → nat_eq c (serving net a l).dump ≡ false → takes_dump (lengths sizes) c d (known_of net us a (serving net a l)) ≡ false
leaves-it net sizes us a c l d e = ap (λ b. b && is_taken (lengths sizes) d (known_of net us a (serving net a l))) e

pub dump-one : (net : Net) (sizes : Sizes) (us ws : ℕ → History) (a c l n : ℕ) (step : Step) (d : UnitDump) → IsWired net → actor_of net a ≡ Control c → GrowsBy us ws a step → Member l (links_out net a Poll) → IsAsked (serving net a l) (us a)
    → (step.choice ≡ (serving net a l).dump → Answers net sizes us a l n d) → step.taken ≡ Some (DumpMsg n) → step.puts ≡ control_puts net a (us a) step.choice (DumpMsg n)
    → dump_by (lengths sizes) step.choice d (known_of net us a (serving net a l)) ≡ known_of net ws a (serving net a l)
dump-one net sizes us ws a c l n step d z q t m b f e p = by_test (eqb_tells step.choice (serving net a l).dump)
  where
    v : IsServed net a l
    v = served-at net a l z m

    g : History
    g = us (link_of net l).to

    r : Known
    r = known_of net us a (serving net a l)

    puts : on_link l step.puts ≡ on_link l (if step.choice == (serving net a l).dump then dump_answer net a (us a) n (serving net a l) else [])
    puts = dump-puts net a step.choice l n (us a) step.puts m p

    by_test : Tested step.choice (serving net a l).dump → dump_by (lengths sizes) step.choice d (known_of net us a (serving net a l)) ≡ known_of net ws a (serving net a l)
    by_test (inl x) = let y = f x.1 in
        ap (λ b. cond b (answered (numbers_told sizes.bits d r) r) r) (takes-it net sizes us a step.choice l n d y x.0)
        ∙ answered-is net sizes (serving net a l) (told_of us (serving net a l) (us a)) (first n g) d (is_outstanding (serving net a l) (us a)) (is_again (action_choice net a) (serving net a l) (us a)) y.tells
        ∙ sym (dumped-is net (action_choice net a) (serving net a l) step (us a) g n x.1 e
        (puts ∙ ap (λ b. on_link l (if b then dump_answer net a (us a) n (serving net a l) else [])) x.0 ∙ answer-on net a l n (us a) (serving net a l) m) y.waits b)
        ∙ after-is net us ws a c l step q v t
    by_test (inr x) = ap (λ b. cond b (answered (numbers_told sizes.bits d r) r) r) (leaves-it net sizes us a step.choice l d x.0)
        ∙ sym (still net (action_choice net a) (serving net a l) step (us a) g x.1 (ap (asks (action_choice net a) (serving net a l) step.choice) e)
        (puts ∙ ap (λ b. on_link l (if b then dump_answer net a (us a) n (serving net a l) else [])) x.0))
        ∙ after-is net us ws a c l step q v t

pub answer-one : (net : Net) (sizes : Sizes) (us ws : ℕ → History) (a c e l n : ℕ) (step : Step) (d : UnitDump) → IsWired net → actor_of net a ≡ Control e → GrowsBy us ws a step → Member l (links_out net a Poll)
    → (c ≡ (serving net a l).dump → Answers net sizes us a l n d)
    → AreSent net sizes ws a (told_at net us a) (if c == (serving net a l).dump then dump_answer net a (us a) n (serving net a l) else []) (dump_puts (lengths sizes) (control_wires net a sizes).done c d (known_of net us a (serving net a l)))
answer-one net sizes us ws a c e l n step d z q t m f = by_test (eqb_tells c (serving net a l).dump)
  where
    v : IsServed net a l
    v = served-at net a l z m

    s : ServedUnit
    s = serving net a l

    r : Known
    r = known_of net us a (serving net a l)

    dones : links_out net a Done ≡ v.reports.done ∷ []
    dones = ap (λ b. links_out net b Done) v.control ∙ v.reports.dones

    by_test : Tested c (serving net a l).dump
        → AreSent net sizes ws a (told_at net us a) (if c == (serving net a l).dump then dump_answer net a (us a) n (serving net a l) else []) (dump_puts (lengths sizes) (control_wires net a sizes).done c d (known_of net us a (serving net a l)))
    by_test (inl x) = let y = f x.1 in let b = takes-it net sizes us a c l n d y x.0 in
        subst (λ y. AreSent net sizes ws a (told_at net us a) (if y then dump_answer net a (us a) n (serving net a l) else []) (dump_puts (lengths sizes) (control_wires net a sizes).done c d r)) (sym x.0)
        (subst (λ y. AreSent net sizes ws a (told_at net us a) (dump_answer net a (us a) n (serving net a l)) (cond y (answer_by (control_wires net a sizes).done (numbers_told sizes.bits d r) d.view r) [])) (sym b)
        (sent-answer net sizes us ws a v.reports.done n s (numbers_told sizes.bits d r) d.view dones (unit-at net (link_of net l).to (z.ways.unit (link_of net l).to v.unit v.is_unit)) refl (t.other (link_of net l).to (not-control net a e l q v))
        (done-is net sizes s (told_of us s (us a)) (first n (us (link_of net l).to)) d (is_outstanding s (us a)) (is_again (action_choice net a) s (us a)) y.tells)))
    by_test (inr x) = let b = leaves-it net sizes us a c l d x.0 in
        subst (λ y. AreSent net sizes ws a (told_at net us a) (if y then dump_answer net a (us a) n (serving net a l) else []) (dump_puts (lengths sizes) (control_wires net a sizes).done c d r)) (sym x.0)
        (subst (λ y. AreSent net sizes ws a (told_at net us a) [] (cond y (answer_by (control_wires net a sizes).done (numbers_told sizes.bits d r) d.view r) [])) (sym b) tt)

-- what is known of a unit are steps that it has made
known-steps : (s : Setup) (lost : Losses) (w : World) (a l : ℕ) → AreReported s → IsFifoRun s lost w → IsServed s.net a l → dumped (serving s.net a l).dump (history w a) ≤ length (history w (link_of s.net l).to)
known-steps s lost w a l reported r v = subst (λ c. dumped c (history w a) ≤ length (history w (link_of s.net l).to)) (sym v.dump)
    (subst (λ b. dumped (choice_of s.net v.reports.dump) (history w b) ≤ length (history w (link_of s.net l).to)) (sym v.control)
    (reported lost w (link_of s.net l).to v.unit v.reports r v.is_unit).dumped_at_most)

pub stays : TakesTurns → (s : Setup) (lost : Losses) (es : List Entry) (e : Entry) (a : ℕ) (sizes : Sizes) (t : ControlState) → AreReported s → IsWired s.net → (a ≡ e.0 → ⊥) → IsControlOf s.net sizes (history (world s lost es)) a t → IsControlOf s.net sizes (history (turn s lost (world s lost es) e)) a t
stays turns s lost es e a sizes t reported z ne r = record {
  wires = r.wires;
  units = r.units ∙ same-units (known_of s.net (history w) a) (known_of s.net (history (turn s lost w e)) a) (serving s.net a) (links_out s.net a Poll)
      (each-of (λ l. known_of s.net (history w) a (serving s.net a l) ≡ known_of s.net (history (turn s lost w e)) a (serving s.net a l)) (links_out s.net a Poll) one);
}
  where
    w : World
    w = world s lost es

    one : (l : ℕ) → Member l (links_out s.net a Poll) → known_of s.net (history w) a (serving s.net a l) ≡ known_of s.net (history (turn s lost w e)) a (serving s.net a l)
    one l m = let v = serving s.net a l in let u = (link_of s.net l).to in let h = history w a in
        let g = (turns.extends s lost w e u).steps (dumped v.dump h) (known-steps s lost w a l reported (turns.fifo_run s lost es) (served-at s.net a l z m)) in
        let k = turns.others s lost w e a ne in
        (λ i. known_by s.net v (sym g i) (is_outstanding v h) (is_again (action_choice s.net a) v h)) ∙ (λ i. seen s.net (action_choice s.net a) v (sym k i) (history (turn s lost w e) u))
