-- Begin numbers and initiations never fall; what is reported of a unit.
use Rattle.std.proofs.Common.{◌≡◌, ℕ, zero, suc, ◌-◌, ◌<◌, ◌≤◌, List, [], ◌∷◌, length, refl, sym, ap, subst, ◌∙◌, Option, Some, None, arith, inl, inr, eq-eqb}
use Rattle.std.specs.Prelude.{◌⊎◌, true, if◌then◌else◌, ◌==◌, unwrap_or, option_and_then, slice_get, IsTrue, false, Bool, nat_eq}
use Rattle.sl_model.specs.declared.message.Step.{Step}
use Rattle.sl_model.specs.declared.message.Message.{Message}
use Rattle.sl_model.specs.declared.message.Message.TheVariants.{Begin as BeginMsg, Init as InitMsg, Poll as PollMsg, Notice as NoticeMsg, Dump as DumpMsg, Done as DoneMsg}
use Rattle.sl_layout.specs.declared.actor.Sort.{Sort}
use Rattle.sl_layout.specs.declared.actor.Sort.TheVariants.{Cable, Crossbar, Init, Begin, Done}
use Rattle.sl_layout.specs.declared.actor.ActorId.TheVariants.{Observer, Control, Unit as OfUnit}
use Rattle.sl_layout.specs.declared.actor.UnitId.{UnitId}
use Rattle.sl_layout.specs.Net.{link_of, links_into, actor_of, action_choice, Net, links_out, choice_of, unit_place}
use Rattle.sl_net.specs.Wired.{IsWired, Reports}
use Rattle.sl_parts.specs.Lists.{Each}
use Rattle.sl_parts.proofs.Lists.{each-imp, each-front, each-back, each-append, each-flat, each-of}
use Rattle.sl_model.specs.Words.{Rises, listed, numbers}
use Rattle.sl_model.specs.History.{History, World, Losses, history, stamp_of, begin_of, dump_of, heard, last, takes, put, done_of, on_link}
use Rattle.sl_model.specs.Setup.{Setup}
use Rattle.sl_model.specs.Knowledge.{observer, issued, can_issue, can_resend, dumped, known, is_outstanding, is_again}
use Rattle.sl_model.specs.Made.{Took, Acted, IsMade, IsFifoRun}
use Rattle.sl_model.specs.Fit.{fits, fits_link, is_stamped}
use Rattle.sl_model.specs.Window.{begun}
use Rattle.sl_model.specs.Turns.{Begins}
use Rattle.sl_model.proofs.Worlds.Turns.{taken-this, taken-falls, taken-other}
use Rattle.sl_model.proofs.Worlds.Numbers.{Says, Grows, Ordered, ordered, put-rises, NeverFalls, rises-le}
use Rattle.sl_model.proofs.Worlds.Stamps.{PutBy, control-said, observer-acts, begin-said, action-said, taken-fits, unit-link, says-itself, acted-by, took-by, each-on-link, each-taken, put-fits, unit-dumps}
use Rattle.std.proofs.lemmas.Bool.Decides.{eqb_tells}
use Rattle.sl_model.specs.declared.message.Put.{Put}
use Rattle.sl_layout.specs.Serving.{ServedUnit, served}
use Rattle.sl_model.specs.Puts.{control_puts, send, send_all, poll_puts, dump_answer}

abbrev pub TakesFit : Setup → ℕ → History → Type 0
TakesFit s a h = (c l : ℕ) → slice_get (links_into s.net a) c ≡ Some l → Each (λ m. fits_link s.net l m ≡ true) (takes c h)

-- What was taken.

pub fit-taken : (s : Setup) (lost : Losses) (w : World) (a : ℕ) → IsFifoRun s lost w → TakesFit s a (history w a)
fit-taken s lost w a r c l k = taken-fits s lost w a c l r k

pub fit-before : (s : Setup) (a : ℕ) (step : Step) (h : History) → TakesFit s a (step ∷ h) → TakesFit s a h
fit-before s a step h f c l k = each-front (λ m. fits_link s.net l m ≡ true) (takes c h) (if step.choice == c then listed step.taken else []) (f c l k)

-- what a step took is the last message of its choice
pub each-last : (P : Message → Type 0) (step : Step) (h : History) (m : Message) → step.taken ≡ Some m → Each P (takes step.choice (step ∷ h)) → P m
each-last P step h m t e = let b : (if step.choice == step.choice then listed step.taken else []) ≡ m ∷ [] = ap (λ b. if b then listed step.taken else []) (eq-eqb step.choice step.choice refl) ∙ ap listed t in
    (subst (Each P) b (each-back P (takes step.choice h) (if step.choice == step.choice then listed step.taken else []) e)).0

pub fit-last : (s : Setup) (a : ℕ) (step : Step) (h : History) → TakesFit s a (step ∷ h) → (t : Took s a h step) → fits_link s.net t.link t.message ≡ true
fit-last s a step h f t = each-last (λ m. fits_link s.net t.link m ≡ true) step h t.message t.taken (f step.choice t.link t.into)

-- what is heard by the choice of a step
pub heard-this : (f : Message → Option ℕ) (c k : ℕ) (step : Step) (h : History) (m : Message) → step.choice ≡ c → step.taken ≡ Some m → f m ≡ Some k → heard f c (step ∷ h) ≡ k
heard-this f c k step h m q t e = ap (λ b. if b then unwrap_or (option_and_then f step.taken) (heard f c h) else heard f c h) (eq-eqb step.choice c q)
    ∙ ap (λ o. unwrap_or (option_and_then f o) (heard f c h)) t ∙ ap (λ o. unwrap_or o (heard f c h)) e

begin-fits : (t : Sort) (k : ℕ) (m : Message) → fits t m ≡ true → begin_of m ≡ Some k → t ≡ Begin
begin-fits Begin k (BeginMsg j) f b = refl
begin-fits _ k (BeginMsg j) f b = absurd cc
begin-fits t k _ f b = absurd cc

-- The observer.

pub get-none : (xs : List ℕ) (n : ℕ) → slice_get xs n ≡ None → length xs ≤ n
get-none [] n h = omega arith
get-none (x ∷ xs) zero h = absurd cc
get-none (x ∷ xs) (suc n) h = omega (arith, get-none xs n h)

-- each Begin is K after its step
pub observer-step : (s : Setup) (h : History) (step : Step) → actor_of s.net 0 ≡ Observer → Took s 0 h step ⊎ Acted s 0 h step
    → Each (PutBy s.net (issued s.net (step ∷ h)) 0) step.puts
observer-step s h step q (inl x) = subst (Each (PutBy s.net (issued s.net (step ∷ h)) 0)) (sym (took-by s 0 h step Observer q x)) tt
observer-step s h step q (inr x) = let b : Begins s x.floor h (step.choice - action_choice s.net 0) step.puts = observer-acts s x.floor 0 (step.choice - action_choice s.net 0) h step.puts (acted-by s 0 h step Observer q x) in
    let e : b.number ≡ issued s.net (step ∷ h) = by_kind b.number (get-none (links_into s.net 0) step.choice x.past) b.kind in
    subst (λ k. Each (PutBy s.net k 0) step.puts) e (subst (Each (PutBy s.net b.number 0)) (sym b.puts) (begin-said s.net b.number 0))
  where
    by_kind : (k : ℕ) → action_choice s.net 0 ≤ step.choice → ((step.choice - action_choice s.net 0 ≡ 0) × (k ≡ suc (issued s.net h)) × (can_issue s x.floor h ≡ true)) ⊎ ((step.choice - action_choice s.net 0 ≡ 1) × (k ≡ issued s.net h) × (can_resend s x.floor h ≡ true))
        → k ≡ issued s.net (step ∷ h)
    by_kind k l (inl z) = let c : step.choice ≡ action_choice s.net 0 = omega (arith, z.0, l) in z.1 ∙ sym (taken-this (action_choice s.net 0) step h c)
    by_kind k l (inr z) = let c : (step.choice ≡ action_choice s.net 0 → ⊥) = λ e. omega (arith, z.0, e) in z.1 ∙ sym (taken-other (action_choice s.net 0) step h c)

pub observer-begins : (s : Setup) (h : History) → actor_of s.net 0 ≡ Observer → IsMade s 0 h → Grows begin_of (issued s.net) h
observer-begins s [] q m = tt
observer-begins s (step ∷ h) q m = let k = issued s.net (step ∷ h) in
    (taken-falls (action_choice s.net 0) step h, each-imp (PutBy s.net k 0) (λ p. Says k (begin_of p.message)) step.puts (λ p b. b.said.begin) (observer-step s h step q m.0), observer-begins s h q m.1)

-- The Begin numbers heard never fall, and these, then those not yet taken, end at most at K.
pub begin-link : (s : Setup) (lost : Losses) (w : World) (a c l : ℕ) → IsWired s.net → (r : IsFifoRun s lost w) (k : slice_get (links_into s.net a) c ≡ Some l) → (link_of s.net l).from ≡ 0
    → Ordered begin_of c (history w a) (r.fifo a c l k).rest (issued s.net (observer w))
begin-link s lost w a c l n r k q = let h = history w (link_of s.net l).from in
    ordered begin_of (lost l) c (history w a) (put l h) (issued s.net (observer w))
    (subst (λ b. Rises 0 (numbers begin_of (put l (history w b))) (issued s.net (observer w))) (sym q)
    (put-rises begin_of (issued s.net) l (history w 0) (observer-begins s (history w 0) n.observer (r.made 0))))
    (r.fifo a c l k)

-- Controls: each initiation is the last Begin number after its step.

control-step : (s : Setup) (a d : ℕ) (h : History) (step : Step) → IsWired s.net → actor_of s.net a ≡ Control d → TakesFit s a (step ∷ h) → Took s a h step ⊎ Acted s a h step
    → (n : ℕ) × Each (PutBy s.net (begun (step ∷ h)) n) step.puts
control-step s a d h step n q f (inl x) = let j = unwrap_or (dump_of x.message) 0 in (
  j,
  subst (Each (PutBy s.net (begun (step ∷ h)) j)) (sym (took-by s a h step (Control d) q x))
      (control-said s.net a h step.choice x.message (begun (step ∷ h)) j (says (begin_of x.message) refl) (says-itself (dump_of x.message))),
)
  where
    says : (o : Option ℕ) → begin_of x.message ≡ o → Says (begun (step ∷ h)) (begin_of x.message)
    says None e = inl e
    says (Some k) e = let z : (link_of s.net x.link).sort ≡ Begin = begin-fits (link_of s.net x.link).sort k x.message (fit-last s a step h f x) e in
        let c : step.choice ≡ 0 = n.begin_first a step.choice x.link x.into z in
        inr (e ∙ ap Some (sym (heard-this begin_of 0 k step h x.message c x.taken e)))
control-step s a d h step n q f (inr x) = (0, action-said s x.floor a (step.choice - action_choice s.net a) (Control d) h step.puts (begun (step ∷ h)) 0 (λ e. cc) (acted-by s a h step (Control d) q x))

control-stamps : (s : Setup) (a d : ℕ) (h : History) → IsWired s.net → actor_of s.net a ≡ Control d → IsMade s a h → TakesFit s a h → NeverFalls begun h → Grows stamp_of begun h
control-stamps s a d [] n q m f g = tt
control-stamps s a d (step ∷ h) n q m f g = let p = control-step s a d h step n q f m.0 in
    (g.0, each-imp (PutBy s.net (begun (step ∷ h)) p.0) (λ p. Says (begun (step ∷ h)) (stamp_of p.message)) step.puts (λ p b. b.said.stamp) p.1, control-stamps s a d h n q m.1 (fit-before s a step h f) g.1)

-- The last Begin number of a control never falls.
pub begun-falls : (s : Setup) (lost : Losses) (w : World) (a d : ℕ) → IsWired s.net → IsFifoRun s lost w → actor_of s.net a ≡ Control d → NeverFalls begun (history w a)
begun-falls s lost w a d n r q = let b = n.begins a d q in (begin-link s lost w a 0 b.0 n r b.1 (n.begin_from b.0 (n.ways.into a 0 b.0 b.1).is_link b.2)).climbs

-- On a link from a control: the stamps heard never fall, and these, then the stamps not yet taken, end at most at its last Begin number.
pub init-link : (s : Setup) (lost : Losses) (w : World) (a c l d : ℕ) → IsWired s.net → (r : IsFifoRun s lost w) (k : slice_get (links_into s.net a) c ≡ Some l) → actor_of s.net (link_of s.net l).from ≡ Control d
    → Ordered stamp_of c (history w a) (r.fifo a c l k).rest (begun (history w (link_of s.net l).from))
init-link s lost w a c l d n r k q = let b = (link_of s.net l).from in let h = history w b in
    ordered stamp_of (lost l) c (history w a) (put l h) (begun h)
    (put-rises stamp_of begun l h (control-stamps s b d h n q (r.made b) (fit-taken s lost w b r) (begun-falls s lost w b d n r q))) (r.fifo a c l k)

-- The last stamp of a channel never falls.
pub last-never-falls : (s : Setup) (lost : Losses) (w : World) (a c l : ℕ) → IsWired s.net → IsFifoRun s lost w → slice_get (links_into s.net a) c ≡ Some l → IsTrue (is_stamped (link_of s.net l).sort) → NeverFalls (last c) (history w a)
last-never-falls s lost w a c l n r k i = by_sort (link_of s.net l).sort refl i
  where
    p : l < length s.net.links
    p = (n.ways.into a c l k).is_link

    of_unit : ((i : UnitId) × (actor_of s.net (link_of s.net l).from ≡ OfUnit i)) → NeverFalls (last c) (history w a)
    of_unit u = (unit-link s lost w a c l u.0 r k u.1).climbs

    of_control : ((d : ℕ) × (actor_of s.net (link_of s.net l).from ≡ Control d)) → NeverFalls (last c) (history w a)
    of_control d = (init-link s lost w a c l d.0 n r k d.1).climbs

    by_sort : (t : Sort) → (link_of s.net l).sort ≡ t → IsTrue (is_stamped t) → NeverFalls (last c) (history w a)
    by_sort Cable q i = of_unit (n.data_from l p (inl q))
    by_sort Crossbar q i = of_unit (n.data_from l p (inr q))
    by_sort Init q i = of_control (n.init_from l p q)
    by_sort _ q i = absurd cc

-- What the observer knows of a unit, what its control plane knows, and the unit's own steps.
--     Knows s lost w u r p     these never fall, nor what is on its way between them

-- The dumps on their way end at most at the unit's own steps.
pub dump-link : (s : Setup) (lost : Losses) (w : World) (a c l u : ℕ) (i : UnitId) (r : IsFifoRun s lost w) (k : slice_get (links_into s.net a) c ≡ Some l) → (link_of s.net l).from ≡ u → actor_of s.net u ≡ OfUnit i
    → Ordered dump_of c (history w a) (r.fifo a c l k).rest (length (history w u))
dump-link s lost w a c l u i r k q j = let h = history w (link_of s.net l).from in
    subst (λ b. Ordered dump_of c (history w a) (r.fifo a c l k).rest (length (history w b))) q
    (ordered dump_of (lost l) c (history w a) (put l h) (length h) (put-rises dump_of (λ h. length h) l h (unit-dumps s (link_of s.net l).from i h (ap (actor_of s.net) q ∙ j) (r.made (link_of s.net l).from))) (r.fifo a c l k))

-- What a control plane says of the unit at a place.

abbrev SaysOf : ℕ → ℕ → Put → Type 0
SaysOf place j p = Says j (done_of place p.message)

each-send : (P : Message → Type 0) (m : Message) (ls : List ℕ) → P m → Each (λ p. P p.message) (send_all m ls)
each-send P m [] h = tt
each-send P m (l ∷ ls) h = (h, each-send P m ls h)

poll-done : (place j : ℕ) (v : ServedUnit) (h : History) → Each (SaysOf place j) (poll_puts v h)
poll-done place j v h = by_bool (is_outstanding v h)
  where
    by_bool : (b : Bool) → Each (SaysOf place j) (if b then [] else send PollMsg v.poll ∷ [])
    by_bool true = tt
    by_bool false = (inl refl, tt)

answer-done : (net : Net) (a : ℕ) (h : History) (n place j : ℕ) (v : ServedUnit) → (unit_place net v.unit ≡ place → n ≡ j) → Each (SaysOf place j) (dump_answer net a h n v)
answer-done net a h n place j v k = each-append (SaysOf place j) (send_all (DoneMsg (unit_place net v.unit) n) (links_out net a Done)) (if is_again (action_choice net a) v h then send PollMsg v.poll ∷ [] else [])
    (each-send (λ m. Says j (done_of place m)) (DoneMsg (unit_place net v.unit) n) (links_out net a Done) (by_tells (eqb_tells place (unit_place net v.unit)))) (by_bool (is_again (action_choice net a) v h))
  where
    by_tells : ((nat_eq place (unit_place net v.unit) ≡ true) × (place ≡ unit_place net v.unit)) ⊎ ((nat_eq place (unit_place net v.unit) ≡ false) × (place ≡ unit_place net v.unit → ⊥)) → Says j (if place == unit_place net v.unit then Some n else None)
    by_tells (inl q) = inr (ap (λ b. if b then Some n else None) q.0 ∙ ap Some (k (sym q.1)))
    by_tells (inr q) = inl (ap (λ b. if b then Some n else None) q.0)

    by_bool : (b : Bool) → Each (SaysOf place j) (if b then send PollMsg v.poll ∷ [] else [])
    by_bool true = (inl refl, tt)
    by_bool false = tt

-- it says j, where a dump that it takes from the unit there says j
control-done : (net : Net) (a : ℕ) (h : History) (c : ℕ) (m : Message) (place j : ℕ) → ((n : ℕ) → m ≡ DumpMsg n → Each (λ v. c ≡ v.dump → unit_place net v.unit ≡ place → n ≡ j) (served net a))
    → Each (SaysOf place j) (control_puts net a h c m)
control-done net a h c (BeginMsg k) place j f = each-send (λ m. Says j (done_of place m)) (InitMsg k) (links_out net a Init) (inl refl)
control-done net a h c NoticeMsg place j f = each-flat (SaysOf place j) (λ v. if c == v.notice then poll_puts v h else []) (served net a)
    (each-of (λ v. Each (SaysOf place j) (if c == v.notice then poll_puts v h else [])) (served net a) (λ v m. by_bool v (c == v.notice)))
  where
    by_bool : (v : ServedUnit) (b : Bool) → Each (SaysOf place j) (if b then poll_puts v h else [])
    by_bool v true = poll-done place j v h
    by_bool v false = tt
control-done net a h c (DumpMsg n) place j f = each-flat (SaysOf place j) (λ v. if c == v.dump then dump_answer net a h n v else []) (served net a)
    (each-imp (λ v. c ≡ v.dump → unit_place net v.unit ≡ place → n ≡ j) (λ v. Each (SaysOf place j) (if c == v.dump then dump_answer net a h n v else [])) (served net a)
    (λ v g. by_tells v g (eqb_tells c v.dump)) (f n refl))
  where
    by_tells : (v : ServedUnit) → (c ≡ v.dump → unit_place net v.unit ≡ place → n ≡ j) → ((nat_eq c v.dump ≡ true) × (c ≡ v.dump)) ⊎ ((nat_eq c v.dump ≡ false) × (c ≡ v.dump → ⊥))
        → Each (SaysOf place j) (if c == v.dump then dump_answer net a h n v else [])
    by_tells v g (inl q) = subst (λ b. Each (SaysOf place j) (if b then dump_answer net a h n v else [])) (sym q.0) (answer-done net a h n place j v (g q.1))
    by_tells v g (inr q) = subst (λ b. Each (SaysOf place j) (if b then dump_answer net a h n v else [])) (sym q.0) tt
control-done net a h c _ place j f = tt

control-done-step : (s : Setup) (a d : ℕ) (h : History) (step : Step) (place j : ℕ) → actor_of s.net a ≡ Control d
    → ((t : Took s a h step) (n : ℕ) → t.message ≡ DumpMsg n → Each (λ v. step.choice ≡ v.dump → unit_place s.net v.unit ≡ place → n ≡ j) (served s.net a))
    → Took s a h step ⊎ Acted s a h step → Each (SaysOf place j) step.puts
control-done-step s a d h step place j q f (inl x) = subst (Each (SaysOf place j)) (sym (took-by s a h step (Control d) q x)) (control-done s.net a h step.choice x.message place j (f x))
control-done-step s a d h step place j q f (inr x) = each-imp (PutBy s.net 0 j) (SaysOf place j) step.puts (λ p b. b.said.done place)
    (action-said s x.floor a (step.choice - action_choice s.net a) (Control d) h step.puts 0 j (λ e. cc) (acted-by s a h step (Control d) q x))

-- Of its own unit u it says what the last dump said.

control-dones : (s : Setup) (u : ℕ) (i : UnitId) (h : History) → actor_of s.net u ≡ OfUnit i → (r : Reports s.net u) → IsMade s r.control h → NeverFalls (dumped (choice_of s.net r.dump)) h
    → Grows (done_of (unit_place s.net u)) (dumped (choice_of s.net r.dump)) h
control-dones s u i [] e r m g = tt
control-dones s u i (step ∷ h) e r m g = (g.0, control-done-step s r.control r.device h step (unit_place s.net u) (dumped (choice_of s.net r.dump) (step ∷ h)) r.is_control told m.0, control-dones s u i h e r m.1 g.1)
  where
    told : (t : Took s r.control h step) (n : ℕ) → t.message ≡ DumpMsg n → Each (λ v. step.choice ≡ v.dump → unit_place s.net v.unit ≡ unit_place s.net u → n ≡ dumped (choice_of s.net r.dump) (step ∷ h)) (served s.net r.control)
    told t n z = each-imp (λ v. v.unit ≡ u → v.dump ≡ choice_of s.net r.dump) (λ v. step.choice ≡ v.dump → unit_place s.net v.unit ≡ unit_place s.net u → n ≡ dumped (choice_of s.net r.dump) (step ∷ h)) (served s.net r.control)
        (λ v g d q. sym (heard-this dump_of (choice_of s.net r.dump) n step h t.message (d ∙ g (r.one_unit v.unit q)) t.taken (ap dump_of z))) r.served_here

-- Other control planes say nothing of it.

none-by : (o : Option ℕ) → Says 0 o → Says 1 o → o ≡ None
none-by o (inl p) q = p
none-by o (inr p) (inl q) = q
none-by o (inr p) (inr q) = let x : unwrap_or o 0 ≡ 0 = ap (λ o. unwrap_or o 0) p in let y : unwrap_or o 0 ≡ 1 = ap (λ o. unwrap_or o 0) q in absurd (omega (arith, x, y))

put-none : (s : Setup) (u b d l : ℕ) (h : History) → ((x : ℕ) → unit_place s.net x ≡ unit_place s.net u → x ≡ u) → actor_of s.net b ≡ Control d → Each (λ v. v.unit ≡ u → ⊥) (served s.net b) → IsMade s b h → Each (λ m. done_of (unit_place s.net u) m ≡ None) (put l h)
put-none s u b d l [] one q e m = tt
put-none s u b d l (step ∷ h) one q e m = each-append (λ m. done_of (unit_place s.net u) m ≡ None) (put l h) (on_link l step.puts) (put-none s u b d l h one q e m.1)
    (each-on-link (λ l m. done_of (unit_place s.net u) m ≡ None) l step.puts (both step.puts (of_number 0) (of_number 1)))
  where
    of_number : (j : ℕ) → Each (SaysOf (unit_place s.net u) j) step.puts
    of_number j = control-done-step s b d h step (unit_place s.net u) j q (λ t n k. each-imp (λ v. v.unit ≡ u → ⊥) (λ v. step.choice ≡ v.dump → unit_place s.net v.unit ≡ unit_place s.net u → n ≡ j) (served s.net b)
        (λ v ne x y. absurd (ne (one v.unit y))) e) m.0

    both : (ps : List Put) → Each (SaysOf (unit_place s.net u) 0) ps → Each (SaysOf (unit_place s.net u) 1) ps → Each (λ p. done_of (unit_place s.net u) p.message ≡ None) ps
    both [] x y = tt
    both (p ∷ ps) x y = (none-by (done_of (unit_place s.net u) p.message) x.0 y.0, both ps x.1 y.1)

done-fits : (t : Sort) (place : ℕ) (m : Message) → fits t m ≡ true → (t ≡ Done → ⊥) → done_of place m ≡ None
done-fits Done place (DoneMsg v k) f ne = absurd (ne refl)
done-fits _ place (DoneMsg v k) f ne = absurd cc
done-fits t place _ f ne = refl

-- By any other choice the observer takes nothing of it.
none-else : (s : Setup) (lost : Losses) (w : World) (u c l : ℕ) (i : UnitId) → IsWired s.net → IsFifoRun s lost w → actor_of s.net u ≡ OfUnit i → (p : Reports s.net u) → slice_get (links_into s.net 0) c ≡ Some l → (l ≡ p.done → ⊥)
    → Each (λ m. done_of (unit_place s.net u) m ≡ None) (takes c (history w 0))
none-else s lost w u c l i n r z p k ne = each-taken (λ m. done_of (unit_place s.net u) m ≡ None) (lost l) c (history w 0) (put l (history w (link_of s.net l).from)) (by_sort (link_of s.net l).sort refl) (r.fifo 0 c l k)
  where
    other : (link_of s.net l).sort ≡ Done → ((link_of s.net l).from ≡ p.control) → ⊥
    other t q = ne (p.one_done l (record { is_link = (n.ways.into 0 c l k).is_link; from = q; sort = t }))

    of_fits : ((link_of s.net l).sort ≡ Done → ⊥) → Each (λ m. done_of (unit_place s.net u) m ≡ None) (put l (history w (link_of s.net l).from))
    of_fits d = each-imp (λ m. fits_link s.net l m ≡ true) (λ m. done_of (unit_place s.net u) m ≡ None) (put l (history w (link_of s.net l).from)) (λ m f. done-fits (link_of s.net l).sort (unit_place s.net u) m f d)
        (put-fits s (link_of s.net l).from l (history w (link_of s.net l).from) (r.made (link_of s.net l).from))

    by_sort : (t : Sort) → (link_of s.net l).sort ≡ t → Each (λ m. done_of (unit_place s.net u) m ≡ None) (put l (history w (link_of s.net l).from))
    by_sort Done q = let d = n.done_from l (n.ways.into 0 c l k).is_link q in
        put-none s u (link_of s.net l).from d.0 l (history w (link_of s.net l).from) p.one_unit d.1 (p.served_elsewhere (link_of s.net l).from (other q)) (r.made (link_of s.net l).from)
    by_sort _ q = of_fits (λ d. let x = sym q ∙ d in cc)

known-is : (s : Setup) (u : ℕ) (h : History) (p : Reports s.net u) → IsMade s 0 h
    → ((c l : ℕ) → slice_get (links_into s.net 0) c ≡ Some l → (c ≡ choice_of s.net p.done → ⊥) → Each (λ m. done_of (unit_place s.net u) m ≡ None) (takes c h)) → known (unit_place s.net u) h ≡ heard (done_of (unit_place s.net u)) (choice_of s.net p.done) h
known-is s u [] p m e = refl
known-is s u (step ∷ h) p m e = by_tells (known-is s u h p m.1 (λ c l k ne. each-front (λ m. done_of (unit_place s.net u) m ≡ None) (takes c h) (if step.choice == c then listed step.taken else []) (e c l k ne))) (eqb_tells step.choice (choice_of s.net p.done))
  where
    nothing : (step.choice ≡ choice_of s.net p.done → ⊥) → Took s 0 h step ⊎ Acted s 0 h step → option_and_then (done_of (unit_place s.net u)) step.taken ≡ None
    nothing ne (inl t) = ap (option_and_then (done_of (unit_place s.net u))) t.taken ∙ each-last (λ m. done_of (unit_place s.net u) m ≡ None) step h t.message t.taken (e step.choice t.link t.into ne)
    nothing ne (inr t) = ap (option_and_then (done_of (unit_place s.net u))) t.taken

    by_tells : known (unit_place s.net u) h ≡ heard (done_of (unit_place s.net u)) (choice_of s.net p.done) h → ((nat_eq step.choice (choice_of s.net p.done) ≡ true) × (step.choice ≡ choice_of s.net p.done)) ⊎ ((nat_eq step.choice (choice_of s.net p.done) ≡ false) × (step.choice ≡ choice_of s.net p.done → ⊥))
        → known (unit_place s.net u) (step ∷ h) ≡ heard (done_of (unit_place s.net u)) (choice_of s.net p.done) (step ∷ h)
    by_tells ih (inl q) = ap (unwrap_or (option_and_then (done_of (unit_place s.net u)) step.taken)) ih
        ∙ sym (ap (λ b. if b then unwrap_or (option_and_then (done_of (unit_place s.net u)) step.taken) (heard (done_of (unit_place s.net u)) (choice_of s.net p.done) h) else heard (done_of (unit_place s.net u)) (choice_of s.net p.done) h) q.0)
    by_tells ih (inr q) = ap (λ o. unwrap_or o (known (unit_place s.net u) h)) (nothing q.1 m.0) ∙ ih
        ∙ sym (ap (λ b. if b then unwrap_or (option_and_then (done_of (unit_place s.net u)) step.taken) (heard (done_of (unit_place s.net u)) (choice_of s.net p.done) h) else heard (done_of (unit_place s.net u)) (choice_of s.net p.done) h) q.0)

-- What is known of a unit: at the observer, in Dones on their way, at the control plane, in dumps on their way, and its own steps.

pub dumps-into : (net : Net) (u : ℕ) (p : Reports net u) → slice_get (links_into net p.control) (choice_of net p.dump) ≡ Some p.dump
dumps-into net u p = p.dump_taken

pub dones-into : (net : Net) (u : ℕ) (p : Reports net u) → slice_get (links_into net 0) (choice_of net p.done) ≡ Some p.done
dones-into net u p = p.done_taken

pub record Knows (s : Setup) (lost : Losses) (w : World) (u : ℕ) (r : IsFifoRun s lost w) (p : Reports s.net u) : Type 0 where
  pub told : known (unit_place s.net u) (observer w) ≡ heard (done_of (unit_place s.net u)) (choice_of s.net p.done) (observer w)
  pub dones : Ordered (done_of (unit_place s.net u)) (choice_of s.net p.done) (observer w) (r.fifo 0 (choice_of s.net p.done) p.done (dones-into s.net u p)).rest (dumped (choice_of s.net p.dump) (history w p.control))
  pub dumps : Ordered dump_of (choice_of s.net p.dump) (history w p.control) (r.fifo p.control (choice_of s.net p.dump) p.dump (dumps-into s.net u p)).rest (length (history w u))
  pub at_most : known (unit_place s.net u) (observer w) ≤ length (history w u)

pub knows : (s : Setup) (lost : Losses) (w : World) (u : ℕ) (i : UnitId) → IsWired s.net → (r : IsFifoRun s lost w) (p : Reports s.net u) → actor_of s.net u ≡ OfUnit i → Knows s lost w u r p
knows s lost w u i n r p q = record {
  told = k;
  dones = d;
  dumps = c;
  at_most = let x : heard (done_of (unit_place s.net u)) (choice_of s.net p.done) (observer w) ≤ dumped (choice_of s.net p.dump) (history w p.control) = rises-le _ _ _ d.rises in let y : dumped (choice_of s.net p.dump) (history w p.control) ≤ length (history w u) = rises-le _ _ _ c.rises in omega (arith, k, x, y);
}
  where
    c : Ordered dump_of (choice_of s.net p.dump) (history w p.control) (r.fifo p.control (choice_of s.net p.dump) p.dump (dumps-into s.net u p)).rest (length (history w u))
    c = dump-link s lost w p.control (choice_of s.net p.dump) p.dump u i r (dumps-into s.net u p) p.dump_out.from q

    d : Ordered (done_of (unit_place s.net u)) (choice_of s.net p.done) (observer w) (r.fifo 0 (choice_of s.net p.done) p.done (dones-into s.net u p)).rest (dumped (choice_of s.net p.dump) (history w p.control))
    d = ordered (done_of (unit_place s.net u)) (lost p.done) (choice_of s.net p.done) (observer w) (put p.done (history w (link_of s.net p.done).from)) (dumped (choice_of s.net p.dump) (history w p.control))
        (subst (λ b. Rises 0 (numbers (done_of (unit_place s.net u)) (put p.done (history w b))) (dumped (choice_of s.net p.dump) (history w p.control))) (sym p.done_out.from)
        (put-rises (done_of (unit_place s.net u)) (dumped (choice_of s.net p.dump)) p.done (history w p.control) (control-dones s u i (history w p.control) q p (r.made p.control) c.climbs)))
        (r.fifo 0 (choice_of s.net p.done) p.done (dones-into s.net u p))

    k : known (unit_place s.net u) (observer w) ≡ heard (done_of (unit_place s.net u)) (choice_of s.net p.done) (observer w)
    k = known-is s u (observer w) p (r.made 0) (λ c l k ne. none-else s lost w u c l i n r q p k (λ e. ne (sym (n.ways.choice 0 c l k) ∙ ap (choice_of s.net) e)))
