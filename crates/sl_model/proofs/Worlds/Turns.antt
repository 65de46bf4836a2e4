-- What a turn does to a world: nothing, or a step of its actor.
--     Steps s lost w e v       the entry e makes a step, which leads from w to v
use Rattle.std.proofs.Common.{◌≡◌, ℕ, zero, suc, ◌<◌, ◌≤◌, List, [], ◌∷◌, ◌++◌, length, refl, ap, Option, Some, None, arith, inl, inr, eq-eqb}
use Rattle.std.specs.Prelude.{◌⊎◌, true, false, Bool, map, slice_get, slice_set, option_and_then, if◌then◌else◌, ◌==◌, nat_eq}
use Rattle.std.proofs.lemmas.Bool.Decides.{eqb_tells}
use Rattle.std.proofs.lemmas.Bool.{cases_lt}
use Rattle.std.proofs.lemmas.List.{get_or-set_same, get_or-set_other}
use Rattle.std.proofs.lemmas.Option.{slice_get_within}
use Rattle.sl_layout.specs.declared.actor.ActorId.{ActorId}
use Rattle.sl_layout.specs.Net.{Net, links_into}
use Rattle.sl_model.specs.declared.message.Step.{Step}
use Rattle.sl_model.specs.History.{History, World, Losses, history, taken}
use Rattle.sl_model.specs.Setup.{Setup}
use Rattle.sl_model.specs.World.{Entry, run, start, next_step, step_by, turn, after}
use Rattle.sl_model.specs.Turns.{GrowsAt}

-- what every turn keeps every run keeps
pub kept_by_run : (s : Setup) (lost : Losses) (P : World → Type 0) → ((w : World) (e : Entry) → P w → P (turn s lost w e)) → (w : World) (es : List Entry) → P w → P (run s lost w es)
kept_by_run s lost P keeps w [] h = h
kept_by_run s lost P keeps w (e ∷ es) h = kept_by_run s lost P keeps (turn s lost w e) es (keeps w e h)

pub run-append : (s : Setup) (lost : Losses) (w : World) (xs ys : List Entry) → run s lost w (xs ++ ys) ≡ run s lost (run s lost w xs) ys
run-append s lost w [] ys = refl
run-append s lost w (x ∷ xs) ys = run-append s lost (turn s lost w x) xs ys

pub grows-after : (w : World) (a : ℕ) (step : Step) → a < length w → GrowsAt w (after w a (Some step)) a step
grows-after w a step h = record { same = get_or-set_same w a (step ∷ history w a) [] h; other = λ b ne. get_or-set_other w a b (step ∷ history w a) [] ne }

pub record Steps (s : Setup) (lost : Losses) (w : World) (e : Entry) (v : World) : Type 0 where
  pub step : Step
  pub next : next_step s lost w e ≡ Some step
  pub grows : GrowsAt w v e.0 step

set-past : (w : World) (a : ℕ) (h : History) → length w ≤ a → slice_set w a h ≡ w
set-past [] a h p = refl
set-past (x ∷ w) zero h p = absurd (omega (arith, p))
set-past (x ∷ w) (suc a) h p = ap (λ r. x ∷ r) (set-past w a h (omega (arith, p)))

pub turn-cases : (s : Setup) (lost : Losses) (w : World) (e : Entry) → (turn s lost w e ≡ w) ⊎ Steps s lost w e (turn s lost w e)
turn-cases s lost w e = by_next (next_step s lost w e) refl
  where
    by_place : (step : Step) → next_step s lost w e ≡ Some step → ((e.0 < length w) ⊎ (length w ≤ e.0)) → (after w e.0 (Some step) ≡ w) ⊎ Steps s lost w e (after w e.0 (Some step))
    by_place step q (inl h) = inr (record { step = step; next = q; grows = grows-after w e.0 step h })
    by_place step q (inr h) = inl (set-past w e.0 (step ∷ history w e.0) h)

    by_next : (o : Option Step) → next_step s lost w e ≡ o → (after w e.0 o ≡ w) ⊎ Steps s lost w e (after w e.0 o)
    by_next None q = inl refl
    by_next (Some step) q = by_place step q (cases_lt e.0 (length w))

-- the actor of a step
pub record Stepped (s : Setup) (lost : Losses) (w : World) (e : Entry) (step : Step) : Type 0 where
  pub actor : ActorId
  pub is_there : slice_get s.net.actors e.0 ≡ Some actor
  pub by : step_by s lost w e.0 e.1 (slice_get (links_into s.net e.0) e.1) actor ≡ Some step

pub stepped : (s : Setup) (lost : Losses) (w : World) (e : Entry) (step : Step) → next_step s lost w e ≡ Some step → Stepped s lost w e step
stepped s lost w e step n = of_actor (slice_get s.net.actors e.0) refl n
  where
    of_actor : (o : Option ActorId) → slice_get s.net.actors e.0 ≡ o → option_and_then (step_by s lost w e.0 e.1 (slice_get (links_into s.net e.0) e.1)) o ≡ Some step → Stepped s lost w e step
    of_actor None q h = absurd cc
    of_actor (Some x) q h = record { actor = x; is_there = q; by = h }

-- a step is one of an actor of the net
pub next-within : (s : Setup) (lost : Losses) (w : World) (e : Entry) (step : Step) → next_step s lost w e ≡ Some step → e.0 < length s.net.actors
next-within s lost w e step n = let t = stepped s lost w e step n in slice_get_within s.net.actors e.0 t.actor t.is_there

-- What was taken by a choice, after a step.

pub taken-step : (c : ℕ) (step : Step) (h : History) → taken c (step ∷ h) ≤ suc (taken c h)
taken-step c step h = by_bool (step.choice == c)
  where
    by_bool : (b : Bool) → (if b then suc (taken c h) else taken c h) ≤ suc (taken c h)
    by_bool true = omega arith
    by_bool false = omega arith

pub taken-falls : (c : ℕ) (step : Step) (h : History) → taken c h ≤ taken c (step ∷ h)
taken-falls c step h = by_bool (step.choice == c)
  where
    by_bool : (b : Bool) → taken c h ≤ (if b then suc (taken c h) else taken c h)
    by_bool true = omega arith
    by_bool false = omega arith

pub taken-this : (c : ℕ) (step : Step) (h : History) → step.choice ≡ c → taken c (step ∷ h) ≡ suc (taken c h)
taken-this c step h q = ap (λ b. if b then suc (taken c h) else taken c h) (eq-eqb step.choice c q)

pub taken-other : (c : ℕ) (step : Step) (h : History) → (step.choice ≡ c → ⊥) → taken c (step ∷ h) ≡ taken c h
taken-other c step h ne = by_tells (eqb_tells step.choice c)
  where
    by_tells : ((nat_eq step.choice c ≡ true) × (step.choice ≡ c)) ⊎ ((nat_eq step.choice c ≡ false) × (step.choice ≡ c → ⊥)) → taken c (step ∷ h) ≡ taken c h
    by_tells (inl q) = absurd (ne q.1)
    by_tells (inr q) = ap (λ b. if b then suc (taken c h) else taken c h) q.0

-- At the start each history is empty.
pub start-empty : (net : Net) (a : ℕ) → history (start net) a ≡ []
start-empty net a = of_list net.actors a
  where
    of_list : (xs : List ActorId) (a : ℕ) → history (map (λ x. []) xs) a ≡ []
    of_list [] a = refl
    of_list (x ∷ xs) zero = refl
    of_list (x ∷ xs) (suc a) = of_list xs a
