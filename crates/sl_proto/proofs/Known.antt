-- What messages tell of units is at most the steps of these.
--     TellsOf net a place     a place of which the actor a tells is that of a unit that it serves
--     puts-there, way-there   so it is for each message put, and for each on its way
use Rattle.std.proofs.Common.{◌≡◌, ℕ, zero, suc, ◌+◌, ◌-◌, ◌<◌, ◌≤◌, List, [], ◌∷◌, ◌++◌, length, refl, sym, ap, subst, ◌∙◌, Option, Some, None, arith, inl, inr}
use Rattle.std.specs.Prelude.{◌⊎◌, true, false, Bool, not, ◌==◌, if◌then◌else◌, nat_eq, flat_map, slice_index, slice_get}
use Rattle.std.proofs.lemmas.Bool.Decides.{eqb_tells}
use Rattle.sl_layout.specs.declared.actor.UnitId.{UnitId}
use Rattle.sl_layout.specs.declared.actor.ActorId.{ActorId}
use Rattle.sl_layout.specs.declared.actor.ActorId.TheVariants.{Observer, Control, Unit as OfUnit, Host as OfHost}
use Rattle.sl_layout.specs.declared.actor.Sort.{Sort}
use Rattle.sl_layout.specs.declared.actor.Sort.TheVariants.{Init, Poll, Dump, Done}
use Rattle.sl_layout.specs.Net.{Net, actor_of, link_of, links_out, choice_of, action_choice, units, unit_place, place_in, links_into}
use Rattle.sl_layout.specs.Serving.{ServedUnit, serving, served, choice_from}
use Rattle.sl_net.specs.Wired.{Reports, IsWired, sends}
use Rattle.sl_model.specs.declared.message.Message.{Message}
use Rattle.sl_model.specs.declared.message.Message.TheVariants.{Init as InitMsg, Poll as PollMsg, Notice as NoticeMsg, Dump as DumpMsg, Begin as BeginMsg, Done as DoneMsg}
use Rattle.sl_model.specs.declared.message.Put.{Put}
use Rattle.sl_model.specs.declared.message.Step.{Step}
use Rattle.sl_parts.specs.Lists.{Each, Member}
use Rattle.sl_parts.proofs.Lists.{each-append, each-imp, each-map, each-flat, each-of, each-at}
use Rattle.sl_model.specs.Words.{listed, numbers}
use Rattle.sl_model.specs.History.{History, World, Losses, history, dump_of, done_of, takes, put, on_link}
use Rattle.sl_model.specs.Setup.{Setup}
use Rattle.sl_model.specs.Knowledge.{is_outstanding, is_again, is_swept, observer, dumped, known}
use Rattle.sl_model.specs.Puts.{send, send_all, poll_puts, dump_answer, control_puts, puts_of, guarded, action}
use Rattle.sl_model.specs.Made.{Took, Acted, IsMade, IsFifoRun}
use Rattle.sl_model.specs.Fit.{fits, fits_link}
use Rattle.sl_model.specs.Window.{on_way}
use Rattle.sl_model.specs.Passing.{PassesMessages}
use Rattle.sl_model.specs.Reported.{AreReported}
use Rattle.sl_net.specs.Ways.{IsOut, HasWays}
use Rattle.sl_proto.specs.Image.{told_by, told_on, ArePut}
use Rattle.sl_proto.proofs.Queues.{Told, IsThere, heard-told, told-all, untold}
use Rattle.sl_model.proofs.Worlds.Passing.{listed-each}
use Rattle.sl_machine.specs.Machine.{After}
use Rattle.sl_wire.specs.declared.message.Msg.{Msg}
use Rattle.sl_wire.specs.Sizes.{Sizes}
use Rattle.sl_model.specs.World.{next_step}
use Rattle.sl_model.specs.Turns.{Takes, Acts, TakesTurns}
use Rattle.sl_simulation.specs.ControlImage.{told_at}
use Rattle.sl_simulation.specs.Simulates.{ActSimulates}
use Rattle.sl_simulation.specs.Messages.{AreSent}
use Rattle.sl_proto.proofs.Sent.{put-by-any, told-is-dumped, told-is-known}
use Rattle.sl_proto.proofs.Spread.{spread-from}

-- Whom a control plane tells of.

pub record TellsOf (net : Net) (a place : ℕ) : Type 0 where
  pub unit : ℕ
  pub id : UnitId
  pub is : actor_of net unit ≡ OfUnit id
  pub at : place ≡ unit_place net unit
  pub by : (r : Reports net unit) → r.control ≡ a

abbrev pub SaidOf : Net → ℕ → Message → Type 0
SaidOf net a m = (place n : ℕ) → m ≡ DoneMsg place n → TellsOf net a place

abbrev pub PutOf : Net → ℕ → Put → Type 0
PutOf net a p = SaidOf net a p.message

each-send : (net : Net) (a : ℕ) (m : Message) (ls : List ℕ) → SaidOf net a m → Each (PutOf net a) (send_all m ls)
each-send net a m [] h = tt
each-send net a m (l ∷ ls) h = (h, each-send net a m ls h)

poll-silent : (net : Net) (a l : ℕ) (b : Bool) → Each (PutOf net a) (if b then [] else send PollMsg l ∷ [])
poll-silent net a l true = tt
poll-silent net a l false = ((λ place n e. absurd (cc)), tt)

again-silent : (net : Net) (a l : ℕ) (b : Bool) → Each (PutOf net a) (if b then send PollMsg l ∷ [] else [])
again-silent net a l true = ((λ place n e. absurd (cc)), tt)
again-silent net a l false = tt

polls-silent : (net : Net) (a : ℕ) (h : History) → Each (PutOf net a) (flat_map (λ v. poll_puts v h) (served net a))
polls-silent net a h = each-flat (PutOf net a) (λ v. poll_puts v h) (served net a) (each-of (λ v. Each (PutOf net a) (poll_puts v h)) (served net a) (λ v m. poll-silent net a v.poll (is_outstanding v h)))

done-place : (unit n place k : ℕ) → DoneMsg unit n ≡ DoneMsg place k → place ≡ unit
done-place unit n place k e = cc

serves-unit : (net : Net) (a l n : ℕ) → IsWired net → IsOut net a Poll l → SaidOf net a (DoneMsg (unit_place net (serving net a l).unit) n)
serves-unit net a l n z o place k e = let i = z.poll_to l o.is_link o.sort in record {
  unit = (link_of net l).to;
  id = i.0;
  is = i.1;
  at = done-place (unit_place net (link_of net l).to) n place k e;
  by = λ r. sym r.poll_from ∙ ap (λ x. (link_of net x).from) (sym (r.polled l refl o.sort)) ∙ o.from;
}

answers-of : (net : Net) (a c n : ℕ) (h : History) → IsWired net → Each (PutOf net a) (flat_map (λ v. if c == v.dump then dump_answer net a h n v else []) (served net a))
answers-of net a c n h z = each-flat (PutOf net a) (λ v. if c == v.dump then dump_answer net a h n v else []) (served net a)
    (each-map (λ v. Each (PutOf net a) (if c == v.dump then dump_answer net a h n v else [])) (serving net a) (links_out net a Poll)
    (each-imp (IsOut net a Poll) (λ l. Each (PutOf net a) (if c == (serving net a l).dump then dump_answer net a h n (serving net a l) else [])) (links_out net a Poll)
    (λ l o. by_bool l o (c == (serving net a l).dump)) (z.ways.outs a Poll)))
  where
    by_bool : (l : ℕ) → IsOut net a Poll l → (b : Bool) → Each (PutOf net a) (if b then dump_answer net a h n (serving net a l) else [])
    by_bool l o true = each-append (PutOf net a) (send_all (DoneMsg (unit_place net (serving net a l).unit) n) (links_out net a Done)) (if is_again (action_choice net a) (serving net a l) h then send PollMsg (serving net a l).poll ∷ [] else [])
        (each-send net a (DoneMsg (unit_place net (serving net a l).unit) n) (links_out net a Done) (serves-unit net a l n z o)) (again-silent net a (serving net a l).poll (is_again (action_choice net a) (serving net a l) h))
    by_bool l o false = tt

control-of : (net : Net) (a : ℕ) (h : History) (c : ℕ) (m : Message) → IsWired net → Each (PutOf net a) (control_puts net a h c m)
control-of net a h c (BeginMsg k) z = each-send net a (InitMsg k) (links_out net a Init) (λ place n e. absurd (cc))
control-of net a h c NoticeMsg z = each-flat (PutOf net a) (λ v. if c == v.notice then poll_puts v h else []) (served net a)
    (each-of (λ v. Each (PutOf net a) (if c == v.notice then poll_puts v h else [])) (served net a) (λ v m. by_bool v (c == v.notice)))
  where
    by_bool : (v : ServedUnit) (b : Bool) → Each (PutOf net a) (if b then poll_puts v h else [])
    by_bool v true = poll-silent net a v.poll (is_outstanding v h)
    by_bool v false = tt
control-of net a h c (DumpMsg n) z = answers-of net a c n h z
control-of net a h c _ z = tt

pub step-of : (s : Setup) (a d : ℕ) (h : History) (step : Step) → IsWired s.net → actor_of s.net a ≡ Control d → Took s a h step ⊎ Acted s a h step → Each (PutOf s.net a) step.puts
step-of s a d h step z q (inl x) = subst (Each (PutOf s.net a)) (sym (x.puts ∙ ap (λ i. puts_of s a i h step.choice x.link x.message) q)) (control-of s.net a h step.choice x.message z)
step-of s a d h step z q (inr x) = of_choice (step.choice - action_choice s.net a) (subst (λ i. action s x.floor a i h (step.choice - action_choice s.net a) ≡ Some step.puts) q x.puts)
  where
    of_guard : (b : Bool) → guarded b (flat_map (λ v. poll_puts v h) (served s.net a)) ≡ Some step.puts → Each (PutOf s.net a) step.puts
    of_guard true e = let p : flat_map (λ v. poll_puts v h) (served s.net a) ≡ step.puts = cc in subst (Each (PutOf s.net a)) p (polls-silent s.net a h)
    of_guard false e = absurd cc

    of_choice : (n : ℕ) → action s x.floor a (Control d) h n ≡ Some step.puts → Each (PutOf s.net a) step.puts
    of_choice zero e = of_guard (not (is_swept s.net a h)) e
    of_choice (suc n) e = absurd cc

pub put-of : PassesMessages → (s : Setup) (a d l : ℕ) (h : History) → IsWired s.net → actor_of s.net a ≡ Control d → IsMade s a h → Each (SaidOf s.net a) (put l h)
put-of passing s a d l [] z q m = tt
put-of passing s a d l (step ∷ h) z q m = each-append (SaidOf s.net a) (put l h) (on_link l step.puts) (put-of passing s a d l h z q m.1)
    (each-imp (λ k. Member (record { link = l; message = k }) step.puts) (SaidOf s.net a) (on_link l step.puts)
    (λ k there. each-at (PutOf s.net a) (record { link = l; message = k }) step.puts (step-of s a d h step z q m.0) there) (passing.by_link l step.puts))

-- Numbers of messages.

each-listed : (f : Message → Option ℕ) (b : ℕ) (ms : List Message) → Each (λ m. (n : ℕ) → f m ≡ Some n → n ≤ b) ms → Each (λ n. n ≤ b) (numbers f ms)
each-listed f b [] e = tt
each-listed f b (m ∷ ms) e = by_number (f m) e.0 (each-listed f b ms e.1)
  where
    by_number : (o : Option ℕ) → ((n : ℕ) → o ≡ Some n → n ≤ b) → Each (λ n. n ≤ b) (numbers f ms) → Each (λ n. n ≤ b) (listed o ++ numbers f ms)
    by_number None g ih = ih
    by_number (Some k) g ih = (g k refl, ih)

-- Dumps.

dump-sender : (x : ActorId) → sends x Dump ≡ true → (i : UnitId) × (x ≡ OfUnit i)
dump-sender Observer h = absurd (cc)
dump-sender (Control d) h = absurd (cc)
dump-sender (OfUnit i) h = (i, refl)
dump-sender (OfHost j) h = absurd (cc)

dump-fits : (t : Sort) (n : ℕ) → fits t (DumpMsg n) ≡ true → t ≡ Dump
dump-fits Dump n h = refl
dump-fits _ n h = absurd (cc)

pub done-fits : (t : Sort) (place n : ℕ) → fits t (DoneMsg place n) ≡ true → t ≡ Done
done-fits Done place n h = refl
done-fits _ place n h = absurd (cc)

-- Dones.

done-is : (place n : ℕ) (m : Message) → done_of place m ≡ Some n → m ≡ DoneMsg place n
done-is place n (DoneMsg unit k) h = by_tells (eqb_tells place unit)
  where
    by_tells : ((nat_eq place unit ≡ true) × (place ≡ unit)) ⊎ ((nat_eq place unit ≡ false) × (place ≡ unit → ⊥)) → DoneMsg unit k ≡ DoneMsg place n
    by_tells (inl q) = let e : Some k ≡ Some n = sym (ap (λ b. if b then Some k else None) q.0) ∙ h in let j : k ≡ n = cc in (λ t. DoneMsg (sym q.1 t) (j t))
    by_tells (inr q) = absurd (let e : None ≡ Some n = sym (ap (λ b. if b then Some k else None) q.0) ∙ h in cc)
done-is place n _ h = absurd (cc)

found-at : (n x : ℕ) (xs : List ℕ) → Member x xs → (i : ℕ) × (place_in n x xs ≡ n + i) × (slice_index xs i ≡ x)
found-at n x [] m = absurd m
found-at n x (y ∷ xs) m = by_tells (λ k. found-at (suc n) x xs k) (eqb_tells y x) m
  where
    by_tells : (Member x xs → (i : ℕ) × (place_in (suc n) x xs ≡ suc n + i) × (slice_index xs i ≡ x)) → ((nat_eq y x ≡ true) × (y ≡ x)) ⊎ ((nat_eq y x ≡ false) × (y ≡ x → ⊥)) → (x ≡ y) ⊎ Member x xs
        → (i : ℕ) × (place_in n x (y ∷ xs) ≡ n + i) × (slice_index (y ∷ xs) i ≡ x)
    by_tells ih (inl q) k = (0, ap (λ b. if b then n else place_in (suc n) x xs) q.0 ∙ omega arith, q.1)
    by_tells ih (inr q) (inl k) = absurd (q.1 (sym k))
    by_tells ih (inr q) (inr k) = let f = ih k in (suc f.0, ap (λ b. if b then n else place_in (suc n) x xs) q.0 ∙ f.1 ∙ omega arith, f.2)

-- the unit at its place
pub unit-at : (net : Net) (u : ℕ) → Member u (units net) → slice_index (units net) (unit_place net u) ≡ u
unit-at net u m = let f = found-at 0 u (units net) m in let e : unit_place net u ≡ f.0 = f.1 ∙ omega arith in ap (slice_index (units net)) e ∙ f.2

-- the link of a Done is the one by which its sender tells of the unit
pub done-link : (s : Setup) (l a place : ℕ) (t : TellsOf s.net a place) (r : Reports s.net t.unit) → l < length s.net.links → (link_of s.net l).from ≡ a → (link_of s.net l).sort ≡ Done → l ≡ r.done
done-link s l a place t r p f k = r.one_done l (record { is_link = p; from = f ∙ sym (t.by r); sort = k })

dones-there : PassesMessages → (s : Setup) → HasWays s.net → (lost : Losses) (w : World) (a place : ℕ) → AreReported s → IsFifoRun s lost w → (t : TellsOf s.net a place) (r : Reports s.net t.unit)
    → Each (λ m. (n : ℕ) → done_of place m ≡ Some n → n ≤ length (history w (slice_index (units s.net) place))) (put r.done (history w a))
dones-there passing s ways lost w a place reported x t r = let u = t.unit in let c = choice_of s.net r.dump in let from = (link_of s.net r.dump).from in
    let sent : Each (λ m. (n : ℕ) → dump_of m ≡ Some n → n ≤ length (history w u)) (put r.dump (history w from)) =
    subst (λ b. Each (λ m. (n : ℕ) → dump_of m ≡ Some n → n ≤ length (history w u)) (put r.dump (history w b))) (sym r.dump_out.from)
    (passing.dumps s u r.dump t.id (history w u) t.is (x.made u)) in
    let took : Each (λ m. (n : ℕ) → dump_of m ≡ Some n → n ≤ length (history w u)) (takes c (history w r.control)) =
    each-imp (λ m. Member m (put r.dump (history w from))) (λ m. (n : ℕ) → dump_of m ≡ Some n → n ≤ length (history w u)) (takes c (history w r.control))
    (λ m k. each-at (λ m. (n : ℕ) → dump_of m ≡ Some n → n ≤ length (history w u)) m (put r.dump (history w from)) sent k)
    (passing.taken s lost w r.control c r.dump x r.dump_taken) in
    let told : Each (λ m. (n : ℕ) → done_of (unit_place s.net u) m ≡ Some n → n ≤ length (history w u)) (put r.done (history w r.control)) =
    listed-each (done_of (unit_place s.net u)) (length (history w u)) (put r.done (history w r.control))
    (subst (Each (λ n. n ≤ length (history w u))) (sym (reported lost w u t.id r x t.is).dones) (each-listed dump_of (length (history w u)) (takes c (history w r.control)) took)) in
    let at : slice_index (units s.net) place ≡ u = ap (slice_index (units s.net)) t.at ∙ unit-at s.net u (ways.unit u t.id t.is) in
    subst (λ b. Each (λ m. (n : ℕ) → done_of place m ≡ Some n → n ≤ length (history w (slice_index (units s.net) place))) (put r.done (history w b))) (t.by r)
    (subst (λ v. Each (λ m. (n : ℕ) → done_of place m ≡ Some n → n ≤ length (history w v)) (put r.done (history w r.control))) (sym at)
    (subst (λ p. Each (λ m. (n : ℕ) → done_of p m ≡ Some n → n ≤ length (history w u)) (put r.done (history w r.control))) (sym t.at) told))

-- All messages.

pub puts-there : PassesMessages → (s : Setup) (lost : Losses) (w : World) (l : ℕ) → AreReported s → IsWired s.net → IsFifoRun s lost w → l < length s.net.links → Each (IsThere s.net (history w) (link_of s.net l).from) (put l (history w (link_of s.net l).from))
puts-there passing s lost w l reported z x p = each-of (IsThere s.net (history w) (link_of s.net l).from) (put l (history w (link_of s.net l).from)) there
  where
    fit : (m : Message) → Member m (put l (history w (link_of s.net l).from)) → fits (link_of s.net l).sort m ≡ true
    fit m k = each-at (λ m. fits_link s.net l m ≡ true) m (put l (history w (link_of s.net l).from)) (passing.fits s lost w l x) k

    dump : (m : Message) → Member m (put l (history w (link_of s.net l).from)) → (n : ℕ) → m ≡ DumpMsg n → n ≤ length (history w (link_of s.net l).from)
    dump m k n e = let sort : (link_of s.net l).sort ≡ Dump = dump-fits (link_of s.net l).sort n (ap (fits (link_of s.net l).sort) (sym e) ∙ fit m k) in
        let i = dump-sender (actor_of s.net (link_of s.net l).from) (ap (sends (actor_of s.net (link_of s.net l).from)) (sym sort) ∙ z.sender l p) in
        each-at (λ m. (n : ℕ) → dump_of m ≡ Some n → n ≤ length (history w (link_of s.net l).from)) m (put l (history w (link_of s.net l).from)) (passing.dumps s (link_of s.net l).from l i.0 (history w (link_of s.net l).from) i.1 (x.made (link_of s.net l).from)) k n (ap dump_of e)

    done : (m : Message) → Member m (put l (history w (link_of s.net l).from)) → (place n : ℕ) → done_of place m ≡ Some n → n ≤ length (history w (slice_index (units s.net) place))
    done m k place n e = let is : m ≡ DoneMsg place n = done-is place n m e in
        let sort : (link_of s.net l).sort ≡ Done = done-fits (link_of s.net l).sort place n (ap (fits (link_of s.net l).sort) (sym is) ∙ fit m k) in
        let d = z.done_from l p sort in
        let t : TellsOf s.net (link_of s.net l).from place = each-at (SaidOf s.net (link_of s.net l).from) m (put l (history w (link_of s.net l).from)) (put-of passing s (link_of s.net l).from d.0 l (history w (link_of s.net l).from) z d.1 (x.made (link_of s.net l).from)) k place n is in
        let r = z.reports t.unit t.id t.is in
        let all = subst (λ j. Each (λ m. (n : ℕ) → done_of place m ≡ Some n → n ≤ length (history w (slice_index (units s.net) place))) (put j (history w (link_of s.net l).from))) (sym (done-link s l (link_of s.net l).from place t r p refl sort))
        (dones-there passing s z.ways lost w (link_of s.net l).from place reported x t r) in
        each-at (λ m. (n : ℕ) → done_of place m ≡ Some n → n ≤ length (history w (slice_index (units s.net) place))) m (put l (history w (link_of s.net l).from)) all k n e

    there : (m : Message) → Member m (put l (history w (link_of s.net l).from)) → IsThere s.net (history w) (link_of s.net l).from m
    there m k = record { dump = dump m k; done = done m k }

pub way-there : PassesMessages → (s : Setup) (lost : Losses) (w : World) (l : ℕ) → AreReported s → IsWired s.net → IsFifoRun s lost w → l < length s.net.links → Each (IsThere s.net (history w) (link_of s.net l).from) (on_way s.net lost w l)
way-there passing s lost w l reported z x p = let a = (link_of s.net l).from in
    each-imp (λ m. Member m (put l (history w a))) (IsThere s.net (history w) a) (on_way s.net lost w l)
    (λ m k. each-at (IsThere s.net (history w) a) m (put l (history w a)) (puts-there passing s lost w l reported z x p) k)
    (passing.coming s lost w (link_of s.net l).to (choice_of s.net l) l x (z.ways.taken l p))

pub told-there : PassesMessages → (s : Setup) (lost : Losses) (w : World) (l : ℕ) → AreReported s → IsWired s.net → IsFifoRun s lost w → l < length s.net.links → Told s.net (history w) (told_by (choice_of s.net l) (history w (link_of s.net l).to))
told-there passing s lost w l reported z x p = let a = (link_of s.net l).from in let b = (link_of s.net l).to in let c = choice_of s.net l in
    subst (Told s.net (history w)) (sym (heard-told c (history w b)))
    (told-all s.net (history w) a untold (takes c (history w b)) (λ place. omega arith)
    (each-imp (λ m. Member m (put l (history w a))) (IsThere s.net (history w) a) (takes c (history w b))
    (λ m k. each-at (IsThere s.net (history w) a) m (put l (history w a)) (puts-there passing s lost w l reported z x p) k)
    (passing.taken s lost w b c l x (z.ways.taken l p))))

-- What nodes are told of units, and when they act.

-- Lists.

pub none-past : (xs : List ℕ) (i : ℕ) → slice_get xs i ≡ None → length xs ≤ i
none-past [] i q = omega arith
none-past (x ∷ xs) zero q = absurd (cc)
none-past (x ∷ xs) (suc i) q = let k = none-past xs i q in omega (arith, k)

-- Takes.

-- what holds of each message put on a link holds of one that a step takes from it
came : TakesTurns → PassesMessages → (s : Setup) (lost : Losses) (w : World) (a c l : ℕ) (step : Step) (m : Message) (P : Message → Type 0) → next_step s lost w (a, c) ≡ Some step → slice_get (links_into s.net a) c ≡ Some l → step.taken ≡ Some m
    → Each P (put l (history w (link_of s.net l).from)) → P m
came turns passing s lost w a c l step m P next into took e = of_view (turns.view s lost w (a, c) step next)
  where
    of_view : Takes s lost w a step ⊎ Acts s w a step → P m
    of_view (inr y) = absurd (let k : None ≡ Some m = sym y.acted.taken ∙ took in cc)
    of_view (inl y) = let k : Some y.took.message ≡ Some m = sym y.took.taken ∙ took in let g : y.took.message ≡ m = cc in
        let j : Some y.took.link ≡ Some l = sym y.took.into ∙ ap (slice_get (links_into s.net a)) (turns.choice s lost w (a, c) step next) ∙ into in let b : y.took.link ≡ l = cc in
        subst P g (each-at P y.took.message (put l (history w (link_of s.net l).from)) e
        (subst (λ l. Member y.took.message (put l (history w (link_of s.net l).from))) b (passing.came s lost w a step y)))

-- Actions.

-- by a choice of no link
acts-view : TakesTurns → (s : Setup) (lost : Losses) (w : World) (a c : ℕ) (step : Step) → next_step s lost w (a, c) ≡ Some step → slice_get (links_into s.net a) c ≡ None → Acted s a (history w a) step
acts-view turns s lost w a c step next none = of_view (turns.view s lost w (a, c) step next)
  where
    of_view : Takes s lost w a step ⊎ Acts s w a step → Acted s a (history w a) step
    of_view (inr y) = y.acted
    of_view (inl y) = absurd (let k : Some y.took.link ≡ None = sym y.took.into ∙ ap (slice_get (links_into s.net a)) (turns.choice s lost w (a, c) step next) ∙ none in cc)

pub takes-none : TakesTurns → (s : Setup) (lost : Losses) (w : World) (a c : ℕ) (step : Step) → next_step s lost w (a, c) ≡ Some step → slice_get (links_into s.net a) c ≡ None → step.taken ≡ None
takes-none turns s lost w a c step next none = (acts-view turns s lost w a c step next none).taken

observer-two : (s : Setup) (f a : ℕ) (h : History) (ps : List Put) (n : ℕ) → action s f a Observer h n ≡ Some ps → n < 2
observer-two s f a h ps zero e = omega arith
observer-two s f a h ps (suc zero) e = omega arith
observer-two s f a h ps (suc (suc n)) e = absurd cc

host-one : (s : Setup) (f a i : ℕ) (h : History) (ps : List Put) (n : ℕ) → action s f a (OfHost i) h n ≡ Some ps → n < 1
host-one s f a i h ps zero e = omega arith
host-one s f a i h ps (suc n) e = absurd cc

pub observer-within : TakesTurns → (s : Setup) (lost : Losses) (w : World) (a c : ℕ) (step : Step) → actor_of s.net a ≡ Observer → next_step s lost w (a, c) ≡ Some step → slice_get (links_into s.net a) c ≡ None → c < length (links_into s.net a) + 2
observer-within turns s lost w a c step q next none = let y = acts-view turns s lost w a c step next none in let k = turns.choice s lost w (a, c) step next in
    let n = observer-two s y.floor a (history w a) step.puts (step.choice - action_choice s.net a) (subst (λ i. action s y.floor a i (history w a) (step.choice - action_choice s.net a) ≡ Some step.puts) q y.puts) in omega (arith, k, n)

pub host-within : TakesTurns → (s : Setup) (lost : Losses) (w : World) (a c i : ℕ) (step : Step) → actor_of s.net a ≡ OfHost i → next_step s lost w (a, c) ≡ Some step → slice_get (links_into s.net a) c ≡ None → c < length (links_into s.net a) + 1
host-within turns s lost w a c i step q next none = let y = acts-view turns s lost w a c step next none in let k = turns.choice s lost w (a, c) step next in
    let n = host-one s y.floor a i (history w a) step.puts (step.choice - action_choice s.net a) (subst (λ i. action s y.floor a i (history w a) (step.choice - action_choice s.net a) ≡ Some step.puts) q y.puts) in omega (arith, k, n)

-- what is done is one thing, whatever was told
pub does-put : {S : Type 0} (Stands : S → Type 0) (net : Net) (sizes : Sizes) (us : ℕ → History) (a : ℕ) (h : History) (ps : List Put) (o : Option (After S Msg)) (g : (told : ℕ → ℕ) → ActSimulates Stands net sizes us a told ps o)
    → ArePut net sizes us a h ps (g untold).after.puts
does-put {S} Stands net sizes us a h ps o g = put-by-any net sizes us a h ps (g untold).after.puts (λ told.
    let e : Some (g told).after ≡ Some (g untold).after = sym (g told).is ∙ (g untold).is in let j : (g told).after ≡ (g untold).after = cc in
    subst (λ (y : After S Msg). AreSent net sizes us a told ps y.puts) j (g told).simulates.sent)

-- Dones.

pub step-dones : TakesTurns → PassesMessages → (s : Setup) (lost : Losses) (w : World) (a d c : ℕ) (step : Step) → AreReported s → IsWired s.net → IsFifoRun s lost w → actor_of s.net a ≡ Control d → next_step s lost w (a, c) ≡ Some step
    → Each (λ p. (place n : ℕ) → p.message ≡ DoneMsg place n → told_at s.net (history w) a place ≡ told_on p.link (history w a) place) step.puts
step-dones turns passing s lost w a d c step reported z x q next = each-of (λ p. (place n : ℕ) → p.message ≡ DoneMsg place n → told_at s.net (history w) a place ≡ told_on p.link (history w a) place) step.puts by_put
  where
    made : Took s a (history w a) step ⊎ Acted s a (history w a) step
    made = of_view (turns.view s lost w (a, c) step next)
      where
        of_view : Takes s lost w a step ⊎ Acts s w a step → Took s a (history w a) step ⊎ Acted s a (history w a) step
        of_view (inl t) = inl t.took
        of_view (inr t) = inr t.acted

    fit : (p : Put) → Member p step.puts → fits_link s.net p.link p.message ≡ true
    fit p k = each-at (λ p. fits_link s.net p.link p.message ≡ true) p step.puts (turns.puts s a (history w a) step made) k

    by_put : (p : Put) → Member p step.puts → (place n : ℕ) → p.message ≡ DoneMsg place n → told_at s.net (history w) a place ≡ told_on p.link (history w a) place
    by_put p k place n e =
        let t : TellsOf s.net a place = each-at (PutOf s.net a) p step.puts (step-of s a d (history w a) step z q made) k place n e in
        let r = z.reports t.unit t.id t.is in
        let from = each-at (λ p. (p.link < length s.net.links) × ((link_of s.net p.link).from ≡ a)) p step.puts (spread-from turns s lost w (a, c) step z next) k in
        let sort : (link_of s.net p.link).sort ≡ Done = done-fits (link_of s.net p.link).sort place n (ap (fits (link_of s.net p.link).sort) (sym e) ∙ fit p k) in
        let link : p.link ≡ r.done = done-link s p.link a place t r from.0 from.1 sort in
        let at : slice_index (units s.net) place ≡ t.unit = ap (slice_index (units s.net)) t.at ∙ unit-at s.net t.unit (z.ways.unit t.unit t.id t.is) in
        let choice : choice_from s.net a (slice_index (units s.net) place) Dump ≡ choice_of s.net r.dump = ap (λ u. choice_from s.net a u Dump) at ∙ subst (λ b. choice_from s.net b t.unit Dump ≡ choice_of s.net r.dump) (t.by r) r.dump_choice in
        ap (λ j. dumped j (history w a)) choice
        ∙ ap (λ b. dumped (choice_of s.net r.dump) (history w b)) (sym (t.by r))
        ∙ sym (told-is-dumped passing s w t.unit r (reported lost w t.unit t.id r x t.is).dones)
        ∙ ap (λ b. told_on r.done (history w b) (unit_place s.net t.unit)) (t.by r)
        ∙ ap (λ j. told_on j (history w a) (unit_place s.net t.unit)) (sym link)
        ∙ ap (told_on p.link (history w a)) (sym t.at)

pub told-known : TakesTurns → PassesMessages → (s : Setup) (lost : Losses) (w : World) (c l : ℕ) (m : Message) (step : Step) → AreReported s → IsWired s.net → IsFifoRun s lost w → next_step s lost w (0, c) ≡ Some step → slice_get (links_into s.net 0) c ≡ Some l
    → step.taken ≡ Some m → (place n : ℕ) → m ≡ DoneMsg place n → told_by c (history w 0) place ≡ known place (observer w)
told-known turns passing s lost w c l m step reported z x next into took place n e =
    let b = (link_of s.net l).from in let low = (z.ways.into 0 c l into).is_link in
    let fit : fits_link s.net l m ≡ true = came turns passing s lost w 0 c l step m (λ m. fits_link s.net l m ≡ true) next into took (passing.fits s lost w l x) in
    let sort : (link_of s.net l).sort ≡ Done = done-fits (link_of s.net l).sort place n (ap (fits (link_of s.net l).sort) (sym e) ∙ fit) in
    let d = z.done_from l low sort in
    let t : TellsOf s.net b place = came turns passing s lost w 0 c l step m (SaidOf s.net b) next into took (put-of passing s b d.0 l (history w b) z d.1 (x.made b)) place n e in
    let r = z.reports t.unit t.id t.is in
    let link : l ≡ r.done = done-link s l b place t r low refl sort in
    let choice : c ≡ choice_of s.net r.done = sym (z.ways.choice 0 c l into) ∙ ap (choice_of s.net) link in
    ap (λ j. told_by j (history w 0) place) choice ∙ ap (told_by (choice_of s.net r.done) (history w 0)) t.at
    ∙ told-is-known s lost w t.unit t.id r reported x t.is ∙ ap (λ p. known p (observer w)) (sym t.at)
