-- Queues of messages of machines, one for one with messages of histories.
--     Told net us told           what was told of each unit is at most its steps
--     IsThere net us a m         so is what the message m of the actor a tells
use Rattle.std.proofs.Common.{◌≡◌, ℕ, ◌≤◌, List, [], ◌∷◌, ◌++◌, length, refl, sym, ap, subst, ◌∙◌, Option, Some, None, inl, inr, eq-eqb}
use Rattle.std.specs.Prelude.{◌⊎◌, true, false, Bool, ◌==◌, if◌then◌else◌, nat_eq, slice_index, unwrap_or, option_and_then}
use Rattle.std.proofs.lemmas.Bool.{le-ltb}
use Rattle.std.proofs.lemmas.Bool.Decides.{eqb_tells}
use Rattle.sl_layout.specs.Net.{Net, units}
use Rattle.sl_wire.specs.declared.message.Msg.{Msg}
use Rattle.sl_wire.specs.Sizes.{Sizes}
use Rattle.sl_model.specs.declared.message.Message.{Message}
use Rattle.sl_model.specs.declared.message.Message.TheVariants.{Dump as DumpMsg, Done as DoneMsg}
use Rattle.sl_model.specs.declared.message.Step.{Step}
use Rattle.sl_parts.specs.Lists.{Each}
use Rattle.sl_model.specs.Words.{listed}
use Rattle.sl_model.specs.History.{History, World, history, first, done_of, takes}
use Rattle.sl_model.specs.Turns.{GrowsAt}
use Rattle.sl_simulation.specs.Messages.{IsMessage, SaysDump, SaysDone}
use Rattle.sl_proto.specs.Image.{tell, tell_all, told_by, AreQueued}

-- What was told.

pub tell_all-append : (told : ℕ → ℕ) (xs ys : List Message) → tell_all told (xs ++ ys) ≡ tell_all (tell_all told xs) ys
tell_all-append told [] ys = refl
tell_all-append told (x ∷ xs) ys = tell_all-append (tell told x) xs ys

abbrev pub untold : ℕ → ℕ
untold place = 0

-- what was heard by a choice is what the messages that came by it tell
pub heard-told : (c : ℕ) (h : History) → told_by c h ≡ tell_all untold (takes c h)
heard-told c [] = refl
heard-told c (s ∷ h) = by_bool (s.choice == c) s.taken (heard-told c h) ∙ sym (tell_all-append untold (takes c h) (if s.choice == c then listed s.taken else []))
  where
    by_bool : (b : Bool) (o : Option Message) → told_by c h ≡ tell_all untold (takes c h)
        → (λ place. if b then unwrap_or (option_and_then (done_of place) o) (told_by c h place) else told_by c h place) ≡ tell_all (tell_all untold (takes c h)) (if b then listed o else [])
    by_bool true (Some m) ih = λ i. tell (ih i) m
    by_bool true None ih = ih
    by_bool false o ih = ih

-- a message stands for what it stands for, also where other things were told of other units
pub retold : (net : Net) (sizes : Sizes) (us : ℕ → History) (a : ℕ) (told now : ℕ → ℕ) (m : Message) (x : Msg) → ((place n : ℕ) → m ≡ DoneMsg place n → told place ≡ now place) → IsMessage net sizes us a told m x → IsMessage net sizes us a now m x
retold net sizes us a told now (DoneMsg place n) x h i = let u : ℕ = slice_index (units net) place in subst (λ k. SaysDone sizes.credits net u (first k (us u)) (first n (us u)) x) (h place n refl) i
retold net sizes us a told now _ x h i = i

-- Growing histories.

abbrev pub Told : Net → (ℕ → History) → (ℕ → ℕ) → Type 0
Told net us told = (place : ℕ) → told place ≤ length (us (slice_index (units net) place))

pub record IsThere (net : Net) (us : ℕ → History) (a : ℕ) (m : Message) : Type 0 where
  pub dump : (n : ℕ) → m ≡ DumpMsg n → n ≤ length (us a)
  pub done : (place n : ℕ) → done_of place m ≡ Some n → n ≤ length (us (slice_index (units net) place))

told-more : (net : Net) (us : ℕ → History) (a : ℕ) (told : ℕ → ℕ) (m : Message) → Told net us told → IsThere net us a m → Told net us (tell told m)
told-more net us a told m t i place = of_some (done_of place m) refl
  where
    of_some : (o : Option ℕ) → done_of place m ≡ o → unwrap_or o (told place) ≤ length (us (slice_index (units net) place))
    of_some (Some n) e = i.done place n e
    of_some None e = t place

pub told-all : (net : Net) (us : ℕ → History) (a : ℕ) (told : ℕ → ℕ) (ms : List Message) → Told net us told → Each (IsThere net us a) ms → Told net us (tell_all told ms)
told-all net us a told [] t e = t
told-all net us a told (m ∷ ms) t e = told-all net us a (tell told m) ms (told-more net us a told m t e.0) e.1

first-same : (w v : World) (b : ℕ) (step : Step) (u n : ℕ) → GrowsAt w v b step → n ≤ length (history w u) → first n (history w u) ≡ first n (history v u)
first-same w v b step u n g p = by_tells (eqb_tells u b)
  where
    by_tells : ((nat_eq u b ≡ true) × (u ≡ b)) ⊎ ((nat_eq u b ≡ false) × (u ≡ b → ⊥)) → first n (history w u) ≡ first n (history v u)
    by_tells (inl q) = let here : first n (history w b) ≡ first n (history v b) = sym (ap (first n) g.same
        ∙ ap (λ t. if t then step ∷ history w b else first n (history w b)) (le-ltb (length (history w b)) n (subst (λ k. n ≤ length (history w k)) q.1 p))) in
        subst (λ k. first n (history w k) ≡ first n (history v k)) (sym q.1) here
    by_tells (inr q) = ap (first n) (sym (g.other u q.1))

done-itself : (place n : ℕ) → done_of place (DoneMsg place n) ≡ Some n
done-itself place n = ap (λ b. if b then Some n else None) (eq-eqb place place refl)

pub message-grown : (net : Net) (sizes : Sizes) (w v : World) (b : ℕ) (step : Step) (a : ℕ) (told : ℕ → ℕ) (m : Message) (x : Msg) → GrowsAt w v b step → Told net (history w) told → IsThere net (history w) a m
    → IsMessage net sizes (history w) a told m x → IsMessage net sizes (history v) a told m x
message-grown net sizes w v b step a told (DumpMsg n) x g t i s = subst (λ h. SaysDump net sizes a h x) (first-same w v b step a n g (i.dump n refl)) s
message-grown net sizes w v b step a told (DoneMsg place n) x g t i s = let u : ℕ = slice_index (units net) place in
    subst (λ h. SaysDone sizes.credits net u (first (told place) (history v u)) h x) (first-same w v b step u n g (i.done place n (done-itself place n)))
    (subst (λ h. SaysDone sizes.credits net u h (first n (history w u)) x) (first-same w v b step u (told place) g (t place)) s)
message-grown net sizes w v b step a told _ x g t i s = s

pub queue-grown : (net : Net) (sizes : Sizes) (w v : World) (b : ℕ) (step : Step) (a : ℕ) (told : ℕ → ℕ) (ms : List Message) (xs : List Msg) → GrowsAt w v b step → Told net (history w) told → Each (IsThere net (history w) a) ms
    → AreQueued net sizes (history w) a told ms xs → AreQueued net sizes (history v) a told ms xs
queue-grown net sizes w v b step a told [] [] g t e q = tt
queue-grown net sizes w v b step a told [] (x ∷ xs) g t e q = q
queue-grown net sizes w v b step a told (m ∷ ms) [] g t e q = q
queue-grown net sizes w v b step a told (m ∷ ms) (x ∷ xs) g t e q =
    (message-grown net sizes w v b step a told m x g t e.0 q.0, queue-grown net sizes w v b step a (tell told m) ms xs g (told-more net (history w) a told m t e.0) e.1 q.1)

-- Puts.

pub queue-push : (net : Net) (sizes : Sizes) (us : ℕ → History) (a : ℕ) (told : ℕ → ℕ) (ms : List Message) (xs : List Msg) (m : Message) (x : Msg) → AreQueued net sizes us a told ms xs → IsMessage net sizes us a (tell_all told ms) m x
    → AreQueued net sizes us a told (ms ++ m ∷ []) (xs ++ x ∷ [])
queue-push net sizes us a told [] [] m x q i = (i, tt)
queue-push net sizes us a told [] (y ∷ xs) m x q i = absurd q
queue-push net sizes us a told (k ∷ ms) [] m x q i = absurd q
queue-push net sizes us a told (k ∷ ms) (y ∷ xs) m x q i = (q.0, queue-push net sizes us a (tell told k) ms xs m x q.1 i)

-- Takes.

-- the first message of a queue
pub record Front (net : Net) (sizes : Sizes) (us : ℕ → History) (a : ℕ) (told : ℕ → ℕ) (m : Message) (ms : List Message) (queue : List Msg) : Type 0 where
  pub message : Msg
  pub rest : List Msg
  pub is : queue ≡ message ∷ rest
  pub stands : IsMessage net sizes us a told m message
  pub queued : AreQueued net sizes us a (tell told m) ms rest

pub front-of : (net : Net) (sizes : Sizes) (us : ℕ → History) (a : ℕ) (told : ℕ → ℕ) (m : Message) (ms : List Message) (queue : List Msg) → AreQueued net sizes us a told (m ∷ ms) queue → Front net sizes us a told m ms queue
front-of net sizes us a told m ms [] q = absurd q
front-of net sizes us a told m ms (x ∷ xs) q = record { message = x; rest = xs; is = refl; stands = q.0; queued = q.1 }

pub queue-empty : (net : Net) (sizes : Sizes) (us : ℕ → History) (a : ℕ) (told : ℕ → ℕ) (queue : List Msg) → AreQueued net sizes us a told [] queue → queue ≡ []
queue-empty net sizes us a told [] q = refl
queue-empty net sizes us a told (x ∷ xs) q = absurd q
