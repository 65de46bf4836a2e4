-- A world is a run: each step is made from the history before it, and links are first in, first out.
--     ran              each world that a schedule reaches is a run
use Rattle.std.proofs.Common.{◌≡◌, ℕ, suc, ◌-◌, List, [], ◌∷◌, ◌++◌, length, refl, sym, ap, subst, ◌∙◌, Option, Some, None, arith, length-append, append-nil, append_assoc, inl, inr, eq-eqb}
use Rattle.std.specs.Prelude.{◌⊎◌, true, false, Bool, slice_get, option_map, if◌then◌else◌, nat_eq}
use Rattle.std.proofs.lemmas.Bool.Decides.{eqb_tells}
use Rattle.std.proofs.lemmas.Option.{get_or_from_slice_get}
use Rattle.sl_layout.specs.Net.{Net, links_into, link_of, actor_of, action_choice, nobody}
use Rattle.sl_model.specs.declared.message.Step.{Step}
use Rattle.sl_model.specs.declared.message.Message.{Message}
use Rattle.sl_model.specs.declared.message.Put.{Put}
use Rattle.sl_model.specs.Words.{listed}
use Rattle.sl_model.specs.History.{History, World, Losses, history, taken, takes, put, on_link, without_lost}
use Rattle.sl_model.specs.Setup.{Setup}
use Rattle.sl_model.specs.Puts.{puts_of, action}
use Rattle.sl_model.specs.World.{Entry, run, start, next_step, step_by, turn, carried, front, taking, acting, floor_for}
use Rattle.sl_model.specs.Made.{Took, Acted, IsMade, AllMade, Fifo, AllFifo, IsFifoRun}
use Rattle.sl_model.specs.Turns.{GrowsAt, Takes, Acts}
use Rattle.sl_model.proofs.Worlds.Turns.{kept_by_run, Steps, stepped, turn-cases, taken-other, start-empty}

pub next-view : (s : Setup) (lost : Losses) (w : World) (e : Entry) (step : Step) → next_step s lost w e ≡ Some step → Takes s lost w e.0 step ⊎ Acts s w e.0 step
next-view s lost w e step n = let t = stepped s lost w e step n in
    let x : actor_of s.net e.0 ≡ t.actor = get_or_from_slice_get s.net.actors e.0 t.actor nobody t.is_there in
    of_link (slice_get (links_into s.net e.0) e.1) refl (subst (λ i. step_by s lost w e.0 e.1 (slice_get (links_into s.net e.0) e.1) i ≡ Some step) (sym x) t.by)
  where
    of_message : (l : ℕ) → slice_get (links_into s.net e.0) e.1 ≡ Some l → (o : Option Message) → front s.net lost w e.0 e.1 l ≡ o
        → option_map (λ m. taking e.1 m (puts_of s e.0 (actor_of s.net e.0) (history w e.0) e.1 l m)) o ≡ Some step → Takes s lost w e.0 step ⊎ Acts s w e.0 step
    of_message l k None q h = absurd cc
    of_message l k (Some m) q h = let x : taking e.1 m (puts_of s e.0 (actor_of s.net e.0) (history w e.0) e.1 l m) ≡ step = cc in
        subst (λ st. Takes s lost w e.0 st ⊎ Acts s w e.0 st) x
        (inl (record { took = record { link = l; message = m; into = k; taken = refl; puts = refl }; found = q }))

    of_action : slice_get (links_into s.net e.0) e.1 ≡ None → (o : Option (List Put)) → action s (floor_for s.net w (actor_of s.net e.0)) e.0 (actor_of s.net e.0) (history w e.0) (e.1 - action_choice s.net e.0) ≡ o
        → option_map (acting e.1) o ≡ Some step → Takes s lost w e.0 step ⊎ Acts s w e.0 step
    of_action k None q h = absurd cc
    of_action k (Some ps) q h = let x : acting e.1 ps ≡ step = cc in
        subst (λ st. Takes s lost w e.0 st ⊎ Acts s w e.0 st) x (inr (record { acted = record { past = k; taken = refl; floor = floor_for s.net w (actor_of s.net e.0); puts = q }; now = refl }))

    of_link : (o : Option ℕ) → slice_get (links_into s.net e.0) e.1 ≡ o → step_by s lost w e.0 e.1 o (actor_of s.net e.0) ≡ Some step → Takes s lost w e.0 step ⊎ Acts s w e.0 step
    of_link (Some l) k h = of_message l k (front s.net lost w e.0 e.1 l) refl h
    of_link None k h = of_action k (action s (floor_for s.net w (actor_of s.net e.0)) e.0 (actor_of s.net e.0) (history w e.0) (e.1 - action_choice s.net e.0)) refl h

-- Steps.

pub made-of : (s : Setup) (lost : Losses) (w : World) (a : ℕ) (step : Step) → Takes s lost w a step ⊎ Acts s w a step → Took s a (history w a) step ⊎ Acted s a (history w a) step
made-of s lost w a step (inl t) = inl t.took
made-of s lost w a step (inr t) = inr t.acted

made-turn : (s : Setup) (lost : Losses) (w : World) (e : Entry) → AllMade s w → AllMade s (turn s lost w e)
made-turn s lost w e h = by_cases (turn-cases s lost w e)
  where
    by_actor : (v : World) (t : Steps s lost w e v) (a : ℕ) → ((nat_eq a e.0 ≡ true) × (a ≡ e.0)) ⊎ ((nat_eq a e.0 ≡ false) × (a ≡ e.0 → ⊥)) → IsMade s a (history v a)
    by_actor v t a (inl q) = subst (λ b. IsMade s b (history v b)) (sym q.1) (subst (IsMade s e.0) (sym t.grows.same)
        (made-of s lost w e.0 t.step (next-view s lost w e t.step t.next), h e.0))
    by_actor v t a (inr q) = subst (IsMade s a) (sym (t.grows.other a q.1)) (h a)

    by_cases : (turn s lost w e ≡ w) ⊎ Steps s lost w e (turn s lost w e) → AllMade s (turn s lost w e)
    by_cases (inl q) = subst (AllMade s) (sym q) h
    by_cases (inr t) = λ a. by_actor (turn s lost w e) t a (eqb_tells a e.0)

pub all-made : (s : Setup) (lost : Losses) (es : List Entry) → AllMade s (run s lost (start s.net) es)
all-made s lost es = kept_by_run s lost (AllMade s) (made-turn s lost) (start s.net) es (λ a. subst (IsMade s a) (sym (start-empty s.net a)) tt)

-- Order on links.

lost-more : (lost : ℕ → Bool) (n : ℕ) (xs ys : List Message) → (more : List Message) × (without_lost lost n (xs ++ ys) ≡ without_lost lost n xs ++ more)
lost-more lost n [] ys = (without_lost lost n ys, refl)
lost-more lost n (x ∷ xs) ys = by_bool (lost (suc n)) (lost-more lost (suc n) xs ys)
  where
    by_bool : (b : Bool) → ((more : List Message) × (without_lost lost (suc n) (xs ++ ys) ≡ without_lost lost (suc n) xs ++ more))
        → (more : List Message) × ((if b then without_lost lost (suc n) (xs ++ ys) else x ∷ without_lost lost (suc n) (xs ++ ys)) ≡ (if b then without_lost lost (suc n) xs else x ∷ without_lost lost (suc n) xs) ++ more)
    by_bool true h = h
    by_bool false h = (h.0, ap (λ r. x ∷ r) h.1)

-- what a link carries grows at its end
pub carried-more : (net : Net) (lost : Losses) (w v : World) (a : ℕ) (step : Step) (l : ℕ) → GrowsAt w v a step → (more : List Message) × (carried net lost v l ≡ carried net lost w l ++ more)
carried-more net lost w v a step l g = by_sender (link_of net l).from (eqb_tells (link_of net l).from a)
  where
    by_sender : (k : ℕ) → ((nat_eq k a ≡ true) × (k ≡ a)) ⊎ ((nat_eq k a ≡ false) × (k ≡ a → ⊥))
        → (more : List Message) × (without_lost (lost l) 0 (put l (history v k)) ≡ without_lost (lost l) 0 (put l (history w k)) ++ more)
    by_sender k (inl q) = subst (λ k. (more : List Message) × (without_lost (lost l) 0 (put l (history v k)) ≡ without_lost (lost l) 0 (put l (history w k)) ++ more)) (sym q.1)
        (subst (λ h. (more : List Message) × (without_lost (lost l) 0 (put l h) ≡ without_lost (lost l) 0 (put l (history w a)) ++ more)) (sym g.same)
        (lost-more (lost l) 0 (put l (history w a)) (on_link l step.puts)))
    by_sender k (inr q) = ([], ap (λ h. without_lost (lost l) 0 (put l h)) (g.other k q.1) ∙ sym (append-nil (without_lost (lost l) 0 (put l (history w k)))))

fifo-more : (c : ℕ) (h : History) (ms more : List Message) → Fifo c h ms → Fifo c h (ms ++ more)
fifo-more c h ms more f = record { rest = f.rest ++ more; split = ap (λ r. r ++ more) f.split ∙ append_assoc (takes c h) f.rest more; count = f.count }

takes-other : (c : ℕ) (step : Step) (h : History) → (step.choice ≡ c → ⊥) → takes c (step ∷ h) ≡ takes c h
takes-other c step h ne = by_tells (eqb_tells step.choice c)
  where
    by_tells : ((nat_eq step.choice c ≡ true) × (step.choice ≡ c)) ⊎ ((nat_eq step.choice c ≡ false) × (step.choice ≡ c → ⊥)) → takes c (step ∷ h) ≡ takes c h
    by_tells (inl q) = absurd (ne q.1)
    by_tells (inr q) = ap (λ b. takes c h ++ (if b then listed step.taken else [])) q.0 ∙ append-nil (takes c h)

takes-this : (c : ℕ) (step : Step) (h : History) (m : Message) → step.choice ≡ c → step.taken ≡ Some m → takes c (step ∷ h) ≡ takes c h ++ m ∷ []
takes-this c step h m q t = ap (λ b. takes c h ++ (if b then listed step.taken else [])) (eq-eqb step.choice c q) ∙ ap (λ o. takes c h ++ listed o) t

fifo-other : (c : ℕ) (step : Step) (h : History) (ms : List Message) → (step.choice ≡ c → ⊥) → Fifo c h ms → Fifo c (step ∷ h) ms
fifo-other c step h ms ne f = let t : takes c (step ∷ h) ≡ takes c h = takes-other c step h ne in
    record { rest = f.rest; split = f.split ∙ ap (λ r. r ++ f.rest) (sym t); count = ap length t ∙ f.count ∙ sym (taken-other c step h ne) }

get-past : {A : Type 0} (xs ys : List A) → slice_get (xs ++ ys) (length xs) ≡ slice_get ys 0
get-past [] ys = refl
get-past (x ∷ xs) ys = get-past xs ys

fifo-this : (c : ℕ) (step : Step) (h : History) (ms : List Message) (m : Message) → step.choice ≡ c → step.taken ≡ Some m → slice_get ms (taken c h) ≡ Some m → Fifo c h ms → Fifo c (step ∷ h) ms
fifo-this c step h ms m q t g f = by_rest f.rest f.split (sym (get-past (takes c h) f.rest) ∙ ap (slice_get (takes c h ++ f.rest)) f.count ∙ ap (λ xs. slice_get xs (taken c h)) (sym f.split) ∙ g)
  where
    k : takes c (step ∷ h) ≡ takes c h ++ m ∷ []
    k = takes-this c step h m q t

    by_rest : (rest : List Message) → ms ≡ takes c h ++ rest → slice_get rest 0 ≡ Some m → Fifo c (step ∷ h) ms
    by_rest [] s n = absurd cc
    by_rest (x ∷ rest) s n = let e : x ≡ m = cc in
        record {
          rest = rest;
          split = s ∙ ap (λ y. takes c h ++ y ∷ rest) e ∙ sym (append_assoc (takes c h) (m ∷ []) rest) ∙ ap (λ r. r ++ rest) (sym k);
          count = let u : length (takes c h ++ m ∷ []) ≡ suc (taken c h) = omega (arith, length-append (takes c h) (m ∷ []), f.count) in
              ap length k ∙ u ∙ ap (λ b. if b then suc (taken c h) else taken c h) (sym (eq-eqb step.choice c q));
        }

fifo-step : (s : Setup) (lost : Losses) (w v : World) (e : Entry) → Steps s lost w e v → AllFifo s.net lost w → AllFifo s.net lost v
fifo-step s lost w v e t ih a c l k = let m = carried-more s.net lost w v e.0 t.step l t.grows in
    subst (Fifo c (history v a)) (sym m.1) (fifo-more c (history v a) (carried s.net lost w l) m.0 (by_actor (eqb_tells a e.0)))
  where
    of_view : (slice_get (links_into s.net e.0) t.step.choice ≡ Some l) → Fifo t.step.choice (history w e.0) (carried s.net lost w l)
        → Takes s lost w e.0 t.step ⊎ Acts s w e.0 t.step → Fifo t.step.choice (t.step ∷ history w e.0) (carried s.net lost w l)
    of_view i f (inl x) = let same : x.took.link ≡ l = cc (x.took.into, i) in
        fifo-this t.step.choice t.step (history w e.0) (carried s.net lost w l) x.took.message refl x.took.taken
        (subst (λ l. front s.net lost w e.0 t.step.choice l ≡ Some x.took.message) same x.found) f
    of_view i f (inr x) = absurd (cc (x.acted.past, i))

    by_choice : (d : ℕ) → slice_get (links_into s.net e.0) d ≡ Some l → ((nat_eq t.step.choice d ≡ true) × (t.step.choice ≡ d)) ⊎ ((nat_eq t.step.choice d ≡ false) × (t.step.choice ≡ d → ⊥))
        → Fifo d (t.step ∷ history w e.0) (carried s.net lost w l)
    by_choice d i (inl q) = subst (λ d. Fifo d (t.step ∷ history w e.0) (carried s.net lost w l)) q.1
        (let j : slice_get (links_into s.net e.0) t.step.choice ≡ Some l = subst (λ d. slice_get (links_into s.net e.0) d ≡ Some l) (sym q.1) i in
        of_view j (ih e.0 t.step.choice l j) (next-view s lost w e t.step t.next))
    by_choice d i (inr q) = fifo-other d t.step (history w e.0) (carried s.net lost w l) q.1 (ih e.0 d l i)

    by_actor : ((nat_eq a e.0 ≡ true) × (a ≡ e.0)) ⊎ ((nat_eq a e.0 ≡ false) × (a ≡ e.0 → ⊥)) → Fifo c (history v a) (carried s.net lost w l)
    by_actor (inl q) = subst (λ b. Fifo c (history v b) (carried s.net lost w l)) (sym q.1) (subst (λ h. Fifo c h (carried s.net lost w l)) (sym t.grows.same)
        (by_choice c (subst (λ b. slice_get (links_into s.net b) c ≡ Some l) q.1 k) (eqb_tells t.step.choice c)))
    by_actor (inr q) = subst (λ h. Fifo c h (carried s.net lost w l)) (sym (t.grows.other a q.1)) (ih a c l k)

fifo-turn : (s : Setup) (lost : Losses) (w : World) (e : Entry) → AllFifo s.net lost w → AllFifo s.net lost (turn s lost w e)
fifo-turn s lost w e h = by_cases (turn-cases s lost w e)
  where
    by_cases : (turn s lost w e ≡ w) ⊎ Steps s lost w e (turn s lost w e) → AllFifo s.net lost (turn s lost w e)
    by_cases (inl q) = subst (AllFifo s.net lost) (sym q) h
    by_cases (inr t) = fifo-step s lost w (turn s lost w e) e t h

pub all-fifo : (s : Setup) (lost : Losses) (es : List Entry) → AllFifo s.net lost (run s lost (start s.net) es)
all-fifo s lost es = kept_by_run s lost (AllFifo s.net lost) (fifo-turn s lost) (start s.net) es
    (λ a c l k. subst (λ h. Fifo c h (carried s.net lost (start s.net) l)) (sym (start-empty s.net a)) (record { rest = carried s.net lost (start s.net) l; split = refl; count = refl }))

pub fifo_run : (s : Setup) (lost : Losses) (es : List Entry) → IsFifoRun s lost (run s lost (start s.net) es)
fifo_run s lost es = record { made = all-made s lost es; fifo = all-fifo s lost es }

pub fifo_run-turn : (s : Setup) (lost : Losses) (w : World) (e : Entry) → IsFifoRun s lost w → IsFifoRun s lost (turn s lost w e)
fifo_run-turn s lost w e r = record { made = made-turn s lost w e r.made; fifo = fifo-turn s lost w e r.fifo }
