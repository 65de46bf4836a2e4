-- The worlds that schedules reach, and the steps there.
--     Reached s lost w               a schedule leads to w
--     StepOf s lost w a c step       by its choice c the actor a makes this step in w
--     TakesBy, ActsBy                it takes what its link has next, or acts at the floor of w
--     world-law, history-law         what every step keeps holds in each world that is reached
use Rattle.std.proofs.Common.{◌++◌, ◌-◌, ◌<◌, List, None, Option, Some, ap, inl, inr, length, length-append, refl, subst, suc, sym, ℕ, ◌∙◌, ◌∷◌, ◌≡◌, ◌≤◌, arith, []}
use Rattle.std.specs.Prelude.{false, map, nat_eq, option_map, slice_get, true, ◌⊎◌}
use Rattle.std.proofs.lemmas.Bool.Decides.{eqb_tells}
use Rattle.std.proofs.lemmas.List.{length-set}
use Rattle.std.proofs.lemmas.Option.{get_or_from_slice_get}
use Rattle.sl_layout.specs.Net.{action_choice, actor_of, links_into, nobody}
use Rattle.sl_layout.specs.declared.actor.ActorId.{ActorId}
use Rattle.sl_model.specs.History.{History, Losses, World, first, history, on_link, put, taken}
use Rattle.sl_model.specs.Made.{IsFifoRun}
use Rattle.sl_model.specs.Puts.{action, puts_of}
use Rattle.sl_model.specs.Setup.{Setup}
use Rattle.sl_model.specs.World.{Entry, acting, after, carried, floor_for, front, next_step, run, start, step_by, taking, turn, world}
use Rattle.sl_model.specs.declared.message.Message.{Message}
use Rattle.sl_model.specs.declared.message.Put.{Put}
use Rattle.sl_model.specs.declared.message.Step.{Step}
use Rattle.sl_model.specs.Turns.{GrowsAt}
use Rattle.sl_model.proofs.Worlds.FifoRuns.{fifo_run}
use Rattle.sl_model.proofs.Worlds.Turns.{Steps, grows-after, kept_by_run, next-within, run-append, start-empty, stepped, taken-falls, taken-other, taken-step, turn-cases}

-- a schedule leads to the world
abbrev pub Reached : Setup → Losses → World → Type 0
Reached s lost w = (es : List Entry) × (world s lost es ≡ w)

pub reached-start : (s : Setup) (lost : Losses) → Reached s lost (start s.net)
reached-start s lost = ([], refl)

pub reached-run : (s : Setup) (lost : Losses) (w : World) (es : List Entry) → Reached s lost w → Reached s lost (run s lost w es)
reached-run s lost w es r = (r.0 ++ es, run-append s lost (start s.net) r.0 es ∙ ap (λ v. run s lost v es) r.1)

pub reached-turn : (s : Setup) (lost : Losses) (w : World) (e : Entry) → Reached s lost w → Reached s lost (turn s lost w e)
reached-turn s lost w e r = reached-run s lost w (e ∷ []) r

pub fifo_run-reached : (s : Setup) (lost : Losses) (w : World) → Reached s lost w → IsFifoRun s lost w
fifo_run-reached s lost w r = subst (IsFifoRun s lost) r.1 (fifo_run s lost r.0)

-- what holds at first and is kept by each step holds in each world that is reached
pub world-law : (s : Setup) (lost : Losses) (P : World → Type 0) → P (start s.net)
    → ((w : World) (e : Entry) (v : World) → Reached s lost w → Reached s lost v → Steps s lost w e v → P w → P v) → (w : World) → Reached s lost w → P w
world-law s lost P first step w r = subst P r.1 (kept_by_run s lost (λ v. Reached s lost v × P v) keeps (start s.net) r.0 (reached-start s lost, first)).1
  where
    by_cases : (w : World) (e : Entry) → Reached s lost w → P w → (turn s lost w e ≡ w) ⊎ Steps s lost w e (turn s lost w e) → P (turn s lost w e)
    by_cases w e r h (inl q) = subst P (sym q) h
    by_cases w e r h (inr t) = step w e (turn s lost w e) r (reached-turn s lost w e r) t h

    keeps : (w : World) (e : Entry) → Reached s lost w × P w → Reached s lost (turn s lost w e) × P (turn s lost w e)
    keeps w e h = (reached-turn s lost w e h.0, by_cases w e h.0 h.1 (turn-cases s lost w e))

-- each world has one history per actor

length-after : (w : World) (a : ℕ) (o : Option Step) → length (after w a o) ≡ length w
length-after w a None = refl
length-after w a (Some step) = length-set w a (step ∷ history w a)

pub length-run : (s : Setup) (lost : Losses) (w : World) (es : List Entry) → length (run s lost w es) ≡ length w
length-run s lost w [] = refl
length-run s lost w (e ∷ es) = length-run s lost (turn s lost w e) es ∙ length-after w e.0 (next_step s lost w e)

pub length-reached : (s : Setup) (lost : Losses) (w : World) → Reached s lost w → length w ≡ length s.net.actors
length-reached s lost w r = sym (ap length r.1) ∙ length-run s lost (start s.net) r.0 ∙ length-empty s.net.actors
  where
    length-empty : (xs : List ActorId) → length (map {A = ActorId} {B = History} (λ x. []) xs) ≡ length xs
    length-empty [] = refl
    length-empty (x ∷ xs) = ap suc (length-empty xs)

-- Steps.

abbrev pub StepOf : Setup → Losses → World → ℕ → ℕ → Step → Type 0
StepOf s lost w a c step = next_step s lost w (a, c) ≡ Some step

pub record TakesBy (s : Setup) (lost : Losses) (w : World) (a c : ℕ) (step : Step) : Type 0 where
  pub link : ℕ
  pub message : Message
  pub at : slice_get (links_into s.net a) c ≡ Some link
  pub in_front : slice_get (carried s.net lost w link) (taken c (history w a)) ≡ Some message
  pub is : step ≡ taking c message (puts_of s a (actor_of s.net a) (history w a) c link message)

pub record ActsBy (s : Setup) (w : World) (a c : ℕ) (step : Step) : Type 0 where
  pub puts : List Put
  pub no_link : slice_get (links_into s.net a) c ≡ None
  pub guard : action s (floor_for s.net w (actor_of s.net a)) a (actor_of s.net a) (history w a) (c - action_choice s.net a) ≡ Some puts
  pub is : step ≡ acting c puts

pub step-cases : (s : Setup) (lost : Losses) (w : World) (a c : ℕ) (step : Step) → StepOf s lost w a c step → TakesBy s lost w a c step ⊎ ActsBy s w a c step
step-cases s lost w a c step n = let t = stepped s lost w (a, c) step n in
    let x : actor_of s.net a ≡ t.actor = get_or_from_slice_get s.net.actors a t.actor nobody t.is_there in
    by_link (slice_get (links_into s.net a) c) refl (subst (λ i. step_by s lost w a c (slice_get (links_into s.net a) c) i ≡ Some step) (sym x) t.by)
  where
    by_front : (l : ℕ) → slice_get (links_into s.net a) c ≡ Some l → (o : Option Message) → front s.net lost w a c l ≡ o
        → option_map (λ m. taking c m (puts_of s a (actor_of s.net a) (history w a) c l m)) o ≡ Some step → TakesBy s lost w a c step ⊎ ActsBy s w a c step
    by_front l q None f h = absurd cc
    by_front l q (Some m) f h = inl (record { link = l; message = m; at = q; in_front = f; is = let e : taking c m (puts_of s a (actor_of s.net a) (history w a) c l m) ≡ step = cc in sym e })

    by_action : slice_get (links_into s.net a) c ≡ None → (o : Option (List Put)) → action s (floor_for s.net w (actor_of s.net a)) a (actor_of s.net a) (history w a) (c - action_choice s.net a) ≡ o
        → option_map (acting c) o ≡ Some step → TakesBy s lost w a c step ⊎ ActsBy s w a c step
    by_action q None f h = absurd cc
    by_action q (Some ps) f h = inr (record { puts = ps; no_link = q; guard = f; is = let e : acting c ps ≡ step = cc in sym e })

    by_link : (o : Option ℕ) → slice_get (links_into s.net a) c ≡ o → step_by s lost w a c o (actor_of s.net a) ≡ Some step → TakesBy s lost w a c step ⊎ ActsBy s w a c step
    by_link (Some l) q h = by_front l q (front s.net lost w a c l) refl h
    by_link None q h = by_action q (action s (floor_for s.net w (actor_of s.net a)) a (actor_of s.net a) (history w a) (c - action_choice s.net a)) refl h

pub choice-of-step : (s : Setup) (lost : Losses) (w : World) (a c : ℕ) (step : Step) → StepOf s lost w a c step → step.choice ≡ c
choice-of-step s lost w a c step n = of_cases (step-cases s lost w a c step n)
  where
    of_cases : TakesBy s lost w a c step ⊎ ActsBy s w a c step → step.choice ≡ c
    of_cases (inl t) = ap (λ y. y.choice) t.is
    of_cases (inr t) = ap (λ y. y.choice) t.is

pub step-within : (s : Setup) (lost : Losses) (w : World) (a c : ℕ) (step : Step) → StepOf s lost w a c step → a < length s.net.actors
step-within s lost w a c step n = next-within s lost w (a, c) step n

-- the world after a step
pub step-grows : (s : Setup) (lost : Losses) (w : World) (a c : ℕ) (step : Step) → Reached s lost w → StepOf s lost w a c step → GrowsAt w (turn s lost w (a, c)) a step
step-grows s lost w a c step r n = subst (λ o. GrowsAt w (after w a o) a step) (sym n) (grows-after w a step (subst (λ k. a < k) (sym (length-reached s lost w r)) (step-within s lost w a c step n)))

-- A law of one actor's history.

pub history-keeps : (s : Setup) (lost : Losses) (a : ℕ) (P : History → Type 0) (w : World) (e : Entry) (v : World) → Steps s lost w e v
    → ((c : ℕ) (step : Step) → StepOf s lost w a c step → P (history w a) → P (step ∷ history w a)) → P (history w a) → P (history v a)
history-keeps s lost a P w e v t keeps h = by_actor (eqb_tells a e.0)
  where
    by_actor : ((nat_eq a e.0 ≡ true) × (a ≡ e.0)) ⊎ ((nat_eq a e.0 ≡ false) × (a ≡ e.0 → ⊥)) → P (history v a)
    by_actor (inl q) = let same : history v a ≡ t.step ∷ history w a = ap (history v) q.1 ∙ t.grows.same ∙ ap (λ b. t.step ∷ history w b) (sym q.1) in
        subst P (sym same) (keeps e.1 t.step (ap (λ b. next_step s lost w (b, e.1)) q.1 ∙ t.next) h)
    by_actor (inr q) = subst P (sym (t.grows.other a q.1)) h

pub history-law : (s : Setup) (lost : Losses) (a : ℕ) (P : History → Type 0) → P []
    → ((w : World) (c : ℕ) (step : Step) → Reached s lost w → StepOf s lost w a c step → P (history w a) → P (step ∷ history w a)) → (w : World) → Reached s lost w → P (history w a)
history-law s lost a P first keeps = world-law s lost (λ w. P (history w a)) (subst P (sym (start-empty s.net a)) first)
    (λ w e v r rv t h. history-keeps s lost a P w e v t (λ c step. keeps w c step r) h)

-- a choice that is taken only below a limit
pub counted-below : (s : Setup) (lost : Losses) (a c limit : ℕ) → ((w : World) (step : Step) → StepOf s lost w a c step → taken c (history w a) < limit)
    → (w : World) → Reached s lost w → taken c (history w a) ≤ limit
counted-below s lost a c limit guard = history-law s lost a (λ h. taken c h ≤ limit) (omega arith) keeps
  where
    keeps : (w : World) (d : ℕ) (step : Step) → Reached s lost w → StepOf s lost w a d step → taken c (history w a) ≤ limit → taken c (step ∷ history w a) ≤ limit
    keeps w d step r n h = by_choice (eqb_tells c d)
      where
        by_choice : ((nat_eq c d ≡ true) × (c ≡ d)) ⊎ ((nat_eq c d ≡ false) × (c ≡ d → ⊥)) → taken c (step ∷ history w a) ≤ limit
        by_choice (inl q) = let g = guard w step (subst (λ d. StepOf s lost w a d step) (sym q.1) n) in omega (arith, g, taken-step c step (history w a))
        by_choice (inr q) = let e = taken-other c step (history w a) (λ m. q.1 (sym m ∙ choice-of-step s lost w a d step n)) in omega (arith, e, h)

-- What only grows.

pub grows-run : (s : Setup) (lost : Losses) (a : ℕ) (f : History → ℕ) → ((step : Step) (h : History) → f h ≤ f (step ∷ h)) → (w : World) (es : List Entry) → f (history w a) ≤ f (history (run s lost w es) a)
grows-run s lost a f more w es = kept_by_run s lost (λ v. f (history w a) ≤ f (history v a)) (λ v e h. by_cases v e (turn-cases s lost v e) h) w es (omega arith)
  where
    by_cases : (v : World) (e : Entry) → (turn s lost v e ≡ v) ⊎ Steps s lost v e (turn s lost v e) → f (history w a) ≤ f (history v a) → f (history w a) ≤ f (history (turn s lost v e) a)
    by_cases v e (inl q) h = subst (λ v. f (history w a) ≤ f (history v a)) (sym q) h
    by_cases v e (inr t) h = history-keeps s lost a (λ h. f (history w a) ≤ f h) v e (turn s lost v e) t (λ d step n k. omega (arith, k, more step (history v a))) h

-- how often a choice was taken never falls
pub taken-grows : (s : Setup) (lost : Losses) (a c : ℕ) (w : World) (es : List Entry) → taken c (history w a) ≤ taken c (history (run s lost w es) a)
taken-grows s lost a c w es = grows-run s lost a (taken c) (λ step h. taken-falls c step h) w es

-- what an actor put on a link only grows
pub put-grows : (s : Setup) (lost : Losses) (a l : ℕ) (w : World) (es : List Entry) → length (put l (history w a)) ≤ length (put l (history (run s lost w es) a))
put-grows s lost a l w es = grows-run s lost a (λ h. length (put l h)) (λ step h. omega (arith, length-append (put l h) (on_link l step.puts))) w es
