-- What an idle settling pass says.
use Rattle.std.proofs.Common.{◌+◌, ◌++◌, ◌-◌, ◌<◌, List, None, Option, Some, ap, inl, inr, length, length-append, refl, subst, suc, sym, zero, ℕ, ◌∙◌, ◌∷◌, ◌≡◌, ◌≤◌, arith, [], ◌==◌, append-nil, eq-eqb}
use Rattle.std.specs.Prelude.{Bool, cond, false, is_some, nat_lt, option_and_then, option_map, slice_get, true, ◌⊎◌, nat_eq, if◌then◌else◌}
use Rattle.std.proofs.lemmas.Bool.{and_parts, ltb-true}
use Rattle.std.proofs.lemmas.Option.{get_or_from_slice_get, slice_get-get_or, slice_get_within}
use Rattle.sl_layout.specs.Net.{Net, action_choice, actor_of, choice_of, link_of, links_into, links_out, nobody, unit_place}
use Rattle.sl_parts.specs.Parts.{below}
use Rattle.sl_layout.specs.declared.actor.ActorId.{ActorId}
use Rattle.sl_layout.specs.declared.actor.ActorId.TheVariants.{Observer, Host as OfHost, Control, Unit as OfUnit}
use Rattle.sl_layout.specs.declared.actor.Sort.TheVariants.{FromHost, Done, Dump, Poll}
use Rattle.sl_model.specs.End.{AllSent, AllTaken, Settled}
use Rattle.sl_model.specs.History.{Losses, World, history, taken, takes, History, done_of, heard, on_link, put, without_lost}
use Rattle.sl_model.specs.Knowledge.{can_issue, can_resend, floor, issued, observer, resent, is_again, known}
use Rattle.sl_model.specs.Puts.{action, begin_all, guarded, puts_of, send_all, control_puts, dump_answer, id_after, send, side_puts, unit_puts}
use Rattle.sl_model.specs.Schedule.{link_entries, pass_actions, settling_pass}
use Rattle.sl_model.specs.Setup.{Setup, frames_of}
use Rattle.sl_parts.specs.Lists.{Each, Member}
use Rattle.sl_parts.proofs.Lists.{each-at, member-flat, member-from, member-left, member-map, member-right, member-parts}
use Rattle.sl_model.specs.World.{Entry, acting, carried, floor_for, front, kept_from, next_step, step_by, taking, turn, IsLossTable, receiver, sender}
use Rattle.sl_model.specs.declared.message.Message.TheVariants.{Host as HostMsg, Begin as BeginMsg, Data, Done as DoneMsg, Dump as DumpMsg, Init as InitMsg, Notice as NoticeMsg, Poll as PollMsg, Probe as ProbeMsg}
use Rattle.sl_model.specs.declared.message.Put.{Put}
use Rattle.sl_model.specs.declared.message.Step.{Step}
use Rattle.sl_model.proofs.Finishing.NetWiring.{Wiring}
use Rattle.sl_model.proofs.Worlds.ReachedWorlds.{ActsBy, Reached, StepOf, TakesBy, counted-below, fifo_run-reached, step-cases}
use Rattle.std.proofs.lemmas.Bool.Decides.{eqb_tells}
use Rattle.sl_layout.specs.Serving.{ServedUnit, choice_from, served, serving}
use Rattle.sl_net.specs.Wired.{IsWired, Reports}
use Rattle.sl_layout.specs.Wiring.{kind_of}
use Rattle.sl_layout.specs.declared.actor.LinkKind.TheVariants.{Reliable}
use Rattle.sl_layout.specs.declared.actor.Sort.{Sort}
use Rattle.sl_layout.specs.declared.actor.UnitId.{UnitId}
use Rattle.sl_model.specs.Made.{Acted, IsMade, IsFifoRun, Took}
use Rattle.sl_model.specs.Words.{listed}
use Rattle.sl_model.specs.declared.message.Message.{Message}
use Rattle.sl_net.specs.Ways.{IsOut, HasWays}
use Rattle.sl_model.proofs.Cuts.Begins.{heard-this, Knows, dones-into, dumps-into, knows}
use Rattle.sl_model.proofs.Worlds.Stamps.{took-by, guard-holds}
use Rattle.sl_model.proofs.Worlds.Numbers.{NeverFalls}

abbrev pub IsIdle : Setup → Losses → World → Entry → Type 0
IsIdle s lost w e = is_some (next_step s lost w e) ≡ false

pub each-idle : (s : Setup) (lost : Losses) (w : World) (es : List Entry) → kept_from s lost w es ≡ [] → Each (IsIdle s lost w) es
each-idle s lost w [] h = tt
each-idle s lost w (e ∷ es) h = by_bool (is_some (next_step s lost w e)) refl h (each-idle s lost w es)
  where
    by_bool : (b : Bool) → is_some (next_step s lost w e) ≡ b → cond b (e ∷ kept_from s lost (turn s lost w e) es) (kept_from s lost w es) ≡ [] → (kept_from s lost w es ≡ [] → Each (IsIdle s lost w) es)
        → IsIdle s lost w e × Each (IsIdle s lost w) es
    by_bool true q k ih = absurd cc
    by_bool false q k ih = (q, ih k)

pub get-past : {A : Type 0} (xs : List A) (n : ℕ) → length xs ≤ n → slice_get xs n ≡ None
get-past [] n h = refl
get-past (x ∷ xs) zero h = absurd (omega (arith, h))
get-past (x ∷ xs) (suc n) h = get-past xs n (omega (arith, h))

pub none-past : {A : Type 0} (xs : List A) (n : ℕ) → slice_get xs n ≡ None → length xs ≤ n
none-past [] n h = omega arith
none-past (x ∷ xs) zero h = absurd cc
none-past (x ∷ xs) (suc n) h = omega (arith, none-past xs n h)

-- the step of an actor that is there
pub next-of : (s : Setup) (lost : Losses) (w : World) (a c : ℕ) (x : ActorId) → slice_get s.net.actors a ≡ Some x → next_step s lost w (a, c) ≡ step_by s lost w a c (slice_get (links_into s.net a) c) x
next-of s lost w a c x q = ap (option_and_then (step_by s lost w a c (slice_get (links_into s.net a) c))) q

-- an actor's choice past its links is an action
pub action-step : (s : Setup) (lost : Losses) (w : World) (a i : ℕ) (x : ActorId) → slice_get s.net.actors a ≡ Some x
    → next_step s lost w (a, action_choice s.net a + i) ≡ option_map (acting (action_choice s.net a + i)) (action s (floor_for s.net w x) a x (history w a) i)
action-step s lost w a i x q = let e : action_choice s.net a + i - action_choice s.net a ≡ i = omega arith in
    next-of s lost w a (action_choice s.net a + i) x q ∙ ap (λ o. step_by s lost w a (action_choice s.net a + i) o x) (get-past (links_into s.net a) (action_choice s.net a + i) (omega arith))
    ∙ ap (λ j. option_map (acting (action_choice s.net a + i)) (action s (floor_for s.net w x) a x (history w a) j)) e

pub own-step : (s : Setup) (lost : Losses) (w : World) (a : ℕ) (x : ActorId) → slice_get s.net.actors a ≡ Some x
    → next_step s lost w (a, action_choice s.net a) ≡ option_map (acting (action_choice s.net a)) (action s (floor_for s.net w x) a x (history w a) 0)
own-step s lost w a x q = let e : action_choice s.net a + 0 ≡ action_choice s.net a = omega arith in
    subst (λ c. next_step s lost w (a, c) ≡ option_map (acting c) (action s (floor_for s.net w x) a x (history w a) 0)) e (action-step s lost w a 0 x q)

pub none-of-idle : {A B : Type 0} (f : A → B) (o : Option A) → is_some (option_map f o) ≡ false → o ≡ None
none-of-idle f None h = refl
none-of-idle f (Some x) h = absurd cc

pub there : (net : Net) (a : ℕ) → a < length net.actors → slice_get net.actors a ≡ Some (actor_of net a)
there net a h = slice_get-get_or net.actors a nobody h

-- Guards.

pub guard-fails : (b : Bool) (ps : List Put) → guarded b ps ≡ None → b ≡ false
guard-fails true ps h = absurd cc
guard-fails false ps h = refl

-- the action of a choice past the links
pub acts-at : (s : Setup) (w : World) (a i : ℕ) (step : Step) (x : ActorId) → actor_of s.net a ≡ x → (t : ActsBy s w a (action_choice s.net a + i) step) → action s (floor_for s.net w x) a x (history w a) i ≡ Some t.puts
acts-at s w a i step x q t = let e : action_choice s.net a + i - action_choice s.net a ≡ i = omega arith in
    subst (λ j. action s (floor_for s.net w x) a x (history w a) j ≡ Some t.puts) e
    (subst (λ y. action s (floor_for s.net w y) a y (history w a) (action_choice s.net a + i - action_choice s.net a) ≡ Some t.puts) q t.guard)

-- a step by a choice past the links acts
pub acts-past : (s : Setup) (lost : Losses) (w : World) (a i : ℕ) (step : Step) (x : ActorId) → actor_of s.net a ≡ x → StepOf s lost w a (action_choice s.net a + i) step
    → (ps : List Put) × (action s (floor_for s.net w x) a x (history w a) i ≡ Some ps)
acts-past s lost w a i step x q n = of_cases (step-cases s lost w a (action_choice s.net a + i) step n)
  where
    of_cases : TakesBy s lost w a (action_choice s.net a + i) step ⊎ ActsBy s w a (action_choice s.net a + i) step → (ps : List Put) × (action s (floor_for s.net w x) a x (history w a) i ≡ Some ps)
    of_cases (inl t) = let p : action_choice s.net a + i < action_choice s.net a = slice_get_within (links_into s.net a) (action_choice s.net a + i) t.link t.at in absurd (omega (arith, p))
    of_cases (inr t) = (t.puts, acts-at s w a i step x q t)

pub acts-first : (s : Setup) (lost : Losses) (w : World) (a : ℕ) (step : Step) (x : ActorId) → actor_of s.net a ≡ x → StepOf s lost w a (action_choice s.net a) step
    → (ps : List Put) × (action s (floor_for s.net w x) a x (history w a) 0 ≡ Some ps)
acts-first s lost w a step x q n = let e : action_choice s.net a ≡ action_choice s.net a + 0 = omega arith in acts-past s lost w a 0 step x q (subst (λ c. StepOf s lost w a c step) e n)

-- Hosts put no more than they have.
pub sent-within : (s : Setup) (lost : Losses) (w : World) → Reached s lost w → (a h : ℕ) → actor_of s.net a ≡ OfHost h → taken (action_choice s.net a) (history w a) ≤ length (frames_of s h)
sent-within s lost w r a h q = counted-below s lost a (action_choice s.net a) (length (frames_of s h)) guard w r
  where
    by_frame : (w : World) (o : Option (List ℕ)) (ps : List Put) → slice_get (frames_of s h) (taken (action_choice s.net a) (history w a)) ≡ o
        → option_map (λ bytes. send_all (HostMsg bytes) (links_out s.net a FromHost)) o ≡ Some ps → taken (action_choice s.net a) (history w a) < length (frames_of s h)
    by_frame w None ps k m = absurd cc
    by_frame w (Some f) ps k m = slice_get_within (frames_of s h) (taken (action_choice s.net a) (history w a)) f k

    guard : (w : World) (step : Step) → StepOf s lost w a (action_choice s.net a) step → taken (action_choice s.net a) (history w a) < length (frames_of s h)
    guard w step n = let m = acts-first s lost w a step (OfHost h) q n in by_frame w (slice_get (frames_of s h) (taken (action_choice s.net a) (history w a))) m.0 refl m.1

-- K is at most the count, and the retries that were used at most all.
pub issued-within : (s : Setup) (lost : Losses) → Wiring s.net → (w : World) → Reached s lost w → issued s.net (observer w) ≤ s.count
issued-within s lost g w r = counted-below s lost 0 (action_choice s.net 0) s.count guard w r
  where
    guard : (w : World) (step : Step) → StepOf s lost w 0 (action_choice s.net 0) step → issued s.net (observer w) < s.count
    guard w step n = let m = acts-first s lost w 0 step Observer g.wired.observer n in
        ltb-true (issued s.net (observer w)) s.count (and_parts (nat_lt (issued s.net (observer w)) s.count) _ (guard-holds (can_issue s (floor s.net w) (observer w)) (begin_all s.net (suc (issued s.net (observer w)))) m.0 m.1).0).0

pub resent-within : (s : Setup) (lost : Losses) → Wiring s.net → (w : World) → Reached s lost w → resent s.net (observer w) ≤ s.retries
resent-within s lost g w r = counted-below s lost 0 (suc (action_choice s.net 0)) s.retries guard w r
  where
    guard : (w : World) (step : Step) → StepOf s lost w 0 (suc (action_choice s.net 0)) step → resent s.net (observer w) < s.retries
    guard w step n = let e : suc (action_choice s.net 0) ≡ action_choice s.net 0 + 1 = omega arith in
        let m = acts-past s lost w 0 1 step Observer g.wired.observer (subst (λ c. StepOf s lost w 0 c step) e n) in
        ltb-true (resent s.net (observer w)) s.retries (and_parts (nat_lt (resent s.net (observer w)) s.retries) _ (guard-holds (can_resend s (floor s.net w) (observer w)) (begin_all s.net (issued s.net (observer w))) m.0 m.1).0).0

-- Entries of a pass.

pub link-in-pass : (net : Net) (a c : ℕ) → a < length net.actors → c < length (links_into net a) → Member (a, c) (settling_pass net)
link-in-pass net a c h k = member-flat (λ a. link_entries net a ++ pass_actions net true a (actor_of net a)) a (a, c) (below (length net.actors)) (member-from a 0 (length net.actors) (omega arith) (omega (arith, h)))
    (member-left (a, c) (link_entries net a) (pass_actions net true a (actor_of net a)) (member-map (λ c. (a, c)) c (below (length (links_into net a))) (member-from c 0 (length (links_into net a)) (omega arith) (omega (arith, k)))))

pub own-in-pass : (net : Net) (a : ℕ) (e : Entry) → a < length net.actors → Member e (pass_actions net true a (actor_of net a)) → Member e (settling_pass net)
own-in-pass net a e h k = member-flat (λ a. link_entries net a ++ pass_actions net true a (actor_of net a)) a e (below (length net.actors)) (member-from a 0 (length net.actors) (omega arith) (omega (arith, h)))
    (member-right e (link_entries net a) (pass_actions net true a (actor_of net a)) k)

-- Where a settling pass does nothing the world is settled.
pub settled-by-pass : (s : Setup) (lost : Losses) → Wiring s.net → (w : World) → Reached s lost w → kept_from s lost w (settling_pass s.net) ≡ [] → Settled s lost w
settled-by-pass s lost g w r k = record { taken_all = all_taken; sent_all = all_sent; none_to_issue = no_issue }
  where
    idle : (e : Entry) → Member e (settling_pass s.net) → IsIdle s lost w e
    idle e m = each-at (IsIdle s lost w) e (settling_pass s.net) (each-idle s lost w (settling_pass s.net) k) m

    all_taken : AllTaken s.net lost w
    all_taken l h = let a = (link_of s.net l).to in let c = choice_of s.net l in
        let f : slice_get (links_into s.net a) c ≡ Some l = g.wired.ways.taken l h in
        let i : IsIdle s lost w (a, c) = idle (a, c) (link-in-pass s.net a c (g.to_actor l h) (slice_get_within (links_into s.net a) c l f)) in
        let n = next-of s lost w a c (actor_of s.net a) (there s.net a (g.to_actor l h)) ∙ ap (λ o. step_by s lost w a c o (actor_of s.net a)) f in
        let e : front s.net lost w a c l ≡ None = none-of-idle (λ m. taking c m (puts_of s a (actor_of s.net a) (history w a) c l m)) (front s.net lost w a c l) (subst (λ o. is_some o ≡ false) n i) in
        let x = (fifo_run-reached s lost w r).fifo a c l f in
        omega (arith, none-past (carried s.net lost w l) (taken c (history w a)) e, x.count, ap length x.split, length-append (takes c (history w a)) x.rest)

    all_sent : AllSent s w
    all_sent a h q = let i : IsIdle s lost w (a, action_choice s.net a) = idle (a, action_choice s.net a)
        (own-in-pass s.net a (a, action_choice s.net a) (slice_get_within s.net.actors a (OfHost h) q) (subst (λ i. Member (a, action_choice s.net a) (pass_actions s.net true a i)) (sym (get_or_from_slice_get s.net.actors a (OfHost h) nobody q)) (inl refl))) in
        let n = none-of-idle (acting (action_choice s.net a)) (action s 0 a (OfHost h) (history w a) 0) (subst (λ o. is_some o ≡ false) (own-step s lost w a (OfHost h) q) i) in
        omega (arith, by_frame (slice_get (frames_of s h) (taken (action_choice s.net a) (history w a))) refl n, sent-within s lost w r a h (get_or_from_slice_get s.net.actors a (OfHost h) nobody q))
      where
        by_frame : (o : Option (List ℕ)) → slice_get (frames_of s h) (taken (action_choice s.net a) (history w a)) ≡ o → option_map (λ bytes. send_all (HostMsg bytes) (links_out s.net a FromHost)) o ≡ None
            → length (frames_of s h) ≤ taken (action_choice s.net a) (history w a)
        by_frame None k m = none-past (frames_of s h) (taken (action_choice s.net a) (history w a)) k
        by_frame (Some f) k m = absurd cc

    first : slice_get s.net.actors 0 ≡ Some Observer
    first = there s.net 0 g.some_actor ∙ ap Some g.wired.observer

    no_issue : can_issue s (floor s.net w) (observer w) ≡ false
    no_issue = let i : IsIdle s lost w (0, action_choice s.net 0) = idle (0, action_choice s.net 0)
        (own-in-pass s.net 0 (0, action_choice s.net 0) g.some_actor (subst (λ i. Member (0, action_choice s.net 0) (pass_actions s.net true 0 i)) (sym g.wired.observer) (inl refl))) in
        let n = none-of-idle (acting (action_choice s.net 0)) (action s (floor s.net w) 0 Observer (observer w) 0) (subst (λ o. is_some o ≡ false) (own-step s lost w 0 Observer first) i) in
        guard-fails (can_issue s (floor s.net w) (observer w)) (begin_all s.net (suc (issued s.net (observer w)))) n

-- How the observer comes to know a unit, where all messages were taken: a poll that the unit took is answered by a dump,
-- the dump by a Done, and the observer knows at least what each Done said.

-- Members.

pub got-member : {A : Type 0} (xs : List A) (n : ℕ) (x : A) → slice_get xs n ≡ Some x → Member x xs
got-member [] n x h = absurd cc
got-member (y ∷ ys) zero x h = let e : y ≡ x = cc in inl (sym e)
got-member (y ∷ ys) (suc n) x h = inr (got-member ys n x h)

pub member-some : {A : Type 0} (x : A) (xs : List A) → Member x xs → 1 ≤ length xs
member-some x [] m = absurd m
member-some x (y ∷ ys) m = omega arith

-- a put on a link
pub put-member : (p : Put) (l : ℕ) (ps : List Put) → Member p ps → p.link ≡ l → Member p.message (on_link l ps)
put-member p l [] m q = absurd m
put-member p l (x ∷ ps) m q = by_member (put-member p l ps) m
  where
    at_once : x.link ≡ l → Member x.message (on_link l (x ∷ ps))
    at_once e = subst (λ b. Member x.message (cond b (x.message ∷ on_link l ps) (on_link l ps))) (sym (eq-eqb x.link l e)) (inl refl)

    later : (b : Bool) → Member p.message (on_link l ps) → Member p.message (cond b (x.message ∷ on_link l ps) (on_link l ps))
    later true k = inr k
    later false k = k

    by_member : (Member p ps → p.link ≡ l → Member p.message (on_link l ps)) → (p ≡ x) ⊎ Member p ps → Member p.message (on_link l (x ∷ ps))
    by_member ih (inl e) = subst (λ y. Member y.message (on_link l (x ∷ ps))) (sym e) (at_once (ap (λ y. y.link) (sym e) ∙ q))
    by_member ih (inr k) = later (x.link == l) (ih k q)

-- Where all was taken and nothing lost, the receiver took what the sender put.

nothing-lost : (f : ℕ → Bool) (n : ℕ) (xs : List Message) → ((k : ℕ) → f k ≡ false) → without_lost f n xs ≡ xs
nothing-lost f n [] h = refl
nothing-lost f n (x ∷ xs) h = ap (λ b. if b then without_lost f (suc n) xs else x ∷ without_lost f (suc n) xs) (h (suc n)) ∙ ap (λ r. x ∷ r) (nothing-lost f (suc n) xs h)

pub carried-all : (net : Net) (lost : Losses) (w : World) (l : ℕ) → IsLossTable net lost → kind_of (link_of net l).sort ≡ Reliable → carried net lost w l ≡ put l (sender net w l)
carried-all net lost w l t k = nothing-lost (lost l) 0 (put l (sender net w l)) (λ n. t l n k)

empty-rest : {A : Type 0} (xs rest : List A) → length (xs ++ rest) ≡ length xs → rest ≡ []
empty-rest xs [] h = refl
empty-rest xs (y ∷ ys) h = absurd (let k = length-append xs (y ∷ ys) in omega (arith, h, k))

pub took-all : (s : Setup) → HasWays s.net → (lost : Losses) (w : World) (a c l : ℕ) → IsFifoRun s lost w → AllTaken s.net lost w → IsLossTable s.net lost → slice_get (links_into s.net a) c ≡ Some l → kind_of (link_of s.net l).sort ≡ Reliable
    → takes c (history w a) ≡ put l (sender s.net w l)
took-all s ways lost w a c l r h t k n = let i = ways.into a c l k in let f = r.fifo a c l k in
    let m : taken c (history w a) ≡ length (carried s.net lost w l) = ap (λ d. taken d (history w a)) (sym (ways.choice a c l k)) ∙ ap (λ b. taken (choice_of s.net l) (history w b)) (sym i.to) ∙ h l i.is_link in
    let e : f.rest ≡ [] = empty-rest (takes c (history w a)) f.rest (ap length (sym f.split) ∙ sym m ∙ sym f.count) in
    sym (append-nil (takes c (history w a))) ∙ ap (λ r. takes c (history w a) ++ r) (sym e) ∙ sym f.split ∙ carried-all s.net lost w l t n

pub all-counted : (s : Setup) (lost : Losses) (w : World) (l : ℕ) → AllTaken s.net lost w → IsLossTable s.net lost → l < length s.net.links → kind_of (link_of s.net l).sort ≡ Reliable
    → taken (choice_of s.net l) (receiver s.net w l) ≡ length (put l (sender s.net w l))
all-counted s lost w l h t p n = h l p ∙ ap length (carried-all s.net lost w l t n)

-- What was heard by a choice is at least each number taken by it.

taken-last : (c : ℕ) (m : Message) (step : Step) (h : History) → Member m (takes c (step ∷ h)) → Member m (takes c h) ⊎ ((step.choice ≡ c) × (step.taken ≡ Some m))
taken-last c m step h k = by_parts (member-parts m (takes c h) (if step.choice == c then listed step.taken else []) k)
  where
    of_taken : (o : Option Message) → Member m (listed o) → o ≡ Some m
    of_taken None n = absurd n
    of_taken (Some x) (inl q) = ap Some (sym q)
    of_taken (Some x) (inr n) = absurd n

    by_tells : ((nat_eq step.choice c ≡ true) × (step.choice ≡ c)) ⊎ ((nat_eq step.choice c ≡ false) × (step.choice ≡ c → ⊥)) → Member m (if step.choice == c then listed step.taken else []) → (step.choice ≡ c) × (step.taken ≡ Some m)
    by_tells (inl q) n = (q.1, of_taken step.taken (subst (λ b. Member m (if b then listed step.taken else [])) q.0 n))
    by_tells (inr q) n = absurd (subst (λ b. Member m (if b then listed step.taken else [])) q.0 n)

    by_parts : Member m (takes c h) ⊎ Member m (if step.choice == c then listed step.taken else []) → Member m (takes c h) ⊎ ((step.choice ≡ c) × (step.taken ≡ Some m))
    by_parts (inl n) = inl n
    by_parts (inr n) = inr (by_tells (eqb_tells step.choice c) n)

pub heard-most : (f : Message → Option ℕ) (c n : ℕ) (m : Message) (h : History) → NeverFalls (heard f c) h → f m ≡ Some n → Member m (takes c h) → n ≤ heard f c h
heard-most f c n m [] g q k = absurd k
heard-most f c n m (step ∷ h) g q k = by_last (heard-most f c n m h g.1 q) (taken-last c m step h k)
  where
    by_last : (Member m (takes c h) → n ≤ heard f c h) → Member m (takes c h) ⊎ ((step.choice ≡ c) × (step.taken ≡ Some m)) → n ≤ heard f c (step ∷ h)
    by_last ih (inl i) = let x : heard f c h ≤ heard f c (step ∷ h) = g.0 in omega (arith, ih i, x)
    by_last ih (inr i) = let x : heard f c (step ∷ h) ≡ n = heard-this f c n step h m i.0 i.1 q in omega (arith, x)

-- Units: a poll is answered by the number of steps.

abbrev pub is_poll : Option Message → Bool
is_poll (Some PollMsg) = true
is_poll _ = false

-- the newest step took a poll
abbrev pub polled_now : History → Bool
polled_now [] = false
polled_now (step ∷ h) = is_poll step.taken

pub poll-taken : (o : Option Message) → is_poll o ≡ true → o ≡ Some PollMsg
poll-taken (Some PollMsg) h = refl
poll-taken None h = absurd cc
poll-taken (Some (HostMsg b)) h = absurd cc
poll-taken (Some (Data k p)) h = absurd cc
poll-taken (Some (ProbeMsg k)) h = absurd cc
poll-taken (Some (InitMsg k)) h = absurd cc
poll-taken (Some NoticeMsg) h = absurd cc
poll-taken (Some (DumpMsg n)) h = absurd cc
poll-taken (Some (BeginMsg k)) h = absurd cc
poll-taken (Some (DoneMsg v n)) h = absurd cc

pub answer-put : (s : Setup) (u : ℕ) (i : UnitId) (r : Reports s.net u) (step : Step) (h : History) → actor_of s.net u ≡ OfUnit i → Took s u h step ⊎ Acted s u h step → step.taken ≡ Some PollMsg
    → Member (DumpMsg (suc (length h))) (on_link r.dump step.puts)
answer-put s u i r step h q (inl t) p = let m : t.message ≡ PollMsg = cc (t.taken, p) in
    let e : step.puts ≡ unit_puts s.net u i h step.choice t.link PollMsg = took-by s u h step (OfUnit i) q t ∙ ap (unit_puts s.net u i h step.choice t.link) m in
    let side = side_puts s.net u i i.side (id_after PollMsg h) t.link PollMsg in
    put-member (send (DumpMsg (suc (length h))) r.dump) r.dump step.puts (subst (Member (send (DumpMsg (suc (length h))) r.dump)) (sym e)
    (member-right (send (DumpMsg (suc (length h))) r.dump) side ([] ++ send_all (DumpMsg (suc (length h))) (links_out s.net u Dump))
    (subst (λ ls. Member (send (DumpMsg (suc (length h))) r.dump) (send_all (DumpMsg (suc (length h))) ls)) (sym r.dumps) (inl refl)))) refl
answer-put s u i r step h q (inr t) p = absurd (cc (t.taken, p))

-- Control planes: a dump of the unit is answered by a Done of it.

-- the unit, as its control plane serves it
abbrev pub served_as : (net : Net) (u : ℕ) → Reports net u → ServedUnit
served_as net u r = serving net r.control r.poll

pub served-member : (net : Net) (u : ℕ) (r : Reports net u) → Member (served_as net u r) (served net r.control)
served-member net u r = member-map (serving net r.control) r.poll (links_out net r.control Poll) r.poll_listed

pub served-dump : (net : Net) (u : ℕ) (r : Reports net u) → choice_of net r.dump ≡ (served_as net u r).dump
served-dump net u r = sym (ap (λ x. choice_from net r.control x Dump) r.poll_to ∙ r.dump_choice)

done-answer : (net : Net) (u n c : ℕ) (h : History) (r : Reports net u) → c ≡ choice_of net r.dump → Member (DoneMsg (unit_place net u) n) (on_link r.done (control_puts net r.control h c (DumpMsg n)))
done-answer net u n c h r q = put-member p r.done (control_puts net r.control h c (DumpMsg n))
    (member-flat (λ v. if c == v.dump then dump_answer net r.control h n v else []) v p (served net r.control) (served-member net u r)
    (subst (λ b. Member p (if b then dump_answer net r.control h n v else [])) (sym (eq-eqb c v.dump (q ∙ served-dump net u r)))
    (member-left p (send_all (DoneMsg (unit_place net v.unit) n) (links_out net r.control Done)) (if is_again (action_choice net r.control) v h then send PollMsg v.poll ∷ [] else [])
    (subst (λ ls. Member p (send_all (DoneMsg (unit_place net v.unit) n) ls)) (sym r.dones) (inl (ap (λ x. send (DoneMsg (unit_place net x) n) r.done) (sym r.poll_to))))))) refl
  where
    v : ServedUnit
    v = served_as net u r

    p : Put
    p = send (DoneMsg (unit_place net u) n) r.done

pub dumps-answered : (s : Setup) (u n : ℕ) (r : Reports s.net u) (h : History) → IsMade s r.control h → Member (DumpMsg n) (takes (choice_of s.net r.dump) h) → Member (DoneMsg (unit_place s.net u) n) (put r.done h)
dumps-answered s u n r [] m k = absurd k
dumps-answered s u n r (step ∷ h) m k = by_last (dumps-answered s u n r h m.1) (taken-last (choice_of s.net r.dump) (DumpMsg n) step h k)
  where
    of_step : step.choice ≡ choice_of s.net r.dump → step.taken ≡ Some (DumpMsg n) → Took s r.control h step ⊎ Acted s r.control h step → Member (DoneMsg (unit_place s.net u) n) (on_link r.done step.puts)
    of_step c q (inl t) = let z : t.message ≡ DumpMsg n = cc (t.taken, q) in
        let e : step.puts ≡ control_puts s.net r.control h step.choice (DumpMsg n) = took-by s r.control h step (Control r.device) r.is_control t ∙ ap (control_puts s.net r.control h step.choice) z in
        subst (λ ps. Member (DoneMsg (unit_place s.net u) n) (on_link r.done ps)) (sym e) (done-answer s.net u n step.choice h r c)
    of_step c q (inr t) = absurd (cc (t.taken, q))

    by_last : (Member (DumpMsg n) (takes (choice_of s.net r.dump) h) → Member (DoneMsg (unit_place s.net u) n) (put r.done h)) → Member (DumpMsg n) (takes (choice_of s.net r.dump) h) ⊎ ((step.choice ≡ choice_of s.net r.dump) × (step.taken ≡ Some (DumpMsg n)))
        → Member (DoneMsg (unit_place s.net u) n) (put r.done h ++ on_link r.done step.puts)
    by_last ih (inl i) = member-left (DoneMsg (unit_place s.net u) n) (put r.done h) (on_link r.done step.puts) (ih i)
    by_last ih (inr i) = member-right (DoneMsg (unit_place s.net u) n) (put r.done h) (on_link r.done step.puts) (of_step i.0 i.1 m.0)

-- Where all was taken, the observer knows the whole history of a unit whose newest step took a poll.

done-says : (place n : ℕ) → done_of place (DoneMsg place n) ≡ Some n
done-says place n = ap (λ b. if b then Some n else None) (eq-eqb place place refl)

reliable : (t u : Sort) → t ≡ u → kind_of u ≡ Reliable → kind_of t ≡ Reliable
reliable t u q h = ap kind_of q ∙ h

newest-dump : (s : Setup) (u : ℕ) (i : UnitId) (r : Reports s.net u) (h : History) → actor_of s.net u ≡ OfUnit i → IsMade s u h → polled_now h ≡ true → Member (DumpMsg (length h)) (put r.dump h)
newest-dump s u i r [] q m p = absurd cc
newest-dump s u i r (step ∷ h) q m p = member-right (DumpMsg (suc (length h))) (put r.dump h) (on_link r.dump step.puts) (answer-put s u i r step h q m.0 (poll-taken step.taken p))

pub knows-polled : (s : Setup) (lost : Losses) (w : World) (u : ℕ) (i : UnitId) → IsWired s.net → IsLossTable s.net lost → IsFifoRun s lost w → AllTaken s.net lost w → actor_of s.net u ≡ OfUnit i → polled_now (history w u) ≡ true
    → known (unit_place s.net u) (observer w) ≡ length (history w u)
knows-polled s lost w u i g t r h q p = omega (arith, k.at_most, known_at_least)
  where
    p' : Reports s.net u
    p' = g.reports u i q

    k : Knows s lost w u r p'
    k = knows s lost w u i g r p' q

    dump : IsOut s.net u Dump p'.dump
    dump = p'.dump_out

    done : IsOut s.net p'.control Done p'.done
    done = p'.done_out

    dumped_at : Member (DumpMsg (length (history w u))) (takes (choice_of s.net p'.dump) (history w p'.control))
    dumped_at = subst (Member (DumpMsg (length (history w u)))) (sym (took-all s g.ways lost w p'.control (choice_of s.net p'.dump) p'.dump r h t (dumps-into s.net u p') (reliable (link_of s.net p'.dump).sort Dump dump.sort refl)))
        (subst (λ a. Member (DumpMsg (length (history w u))) (put p'.dump (history w a))) (sym dump.from) (newest-dump s u i p' (history w u) q (r.made u) p))

    done_at : Member (DoneMsg (unit_place s.net u) (length (history w u))) (takes (choice_of s.net p'.done) (observer w))
    done_at = subst (Member (DoneMsg (unit_place s.net u) (length (history w u)))) (sym (took-all s g.ways lost w 0 (choice_of s.net p'.done) p'.done r h t (dones-into s.net u p') (reliable (link_of s.net p'.done).sort Done done.sort refl)))
        (subst (λ a. Member (DoneMsg (unit_place s.net u) (length (history w u))) (put p'.done (history w a))) (sym done.from) (dumps-answered s u (length (history w u)) p' (history w p'.control) (r.made p'.control) dumped_at))

    known_at_least : length (history w u) ≤ known (unit_place s.net u) (observer w)
    known_at_least = subst (λ n. length (history w u) ≤ n) (sym k.told) (heard-most (done_of (unit_place s.net u)) (choice_of s.net p'.done) (length (history w u)) (DoneMsg (unit_place s.net u) (length (history w u))) (observer w) k.dones.climbs (done-says (unit_place s.net u) (length (history w u))) done_at)
