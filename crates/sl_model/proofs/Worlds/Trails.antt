-- Laws of runs: one schedule after another, and schedules without their idle entries.
use Rattle.std.proofs.Common.{◌≡◌, ℕ, ◌+◌, ◌<◌, List, [], ◌∷◌, ◌++◌, length, refl, sym, ap, subst, ◌∙◌, Option, Some, None, get_or, take}
use Rattle.std.specs.Prelude.{cond, is_some, true, false, Bool, replicate, map}
use Rattle.std.proofs.lemmas.List.{take_more}
use Rattle.sl_layout.specs.Net.{Net}
use Rattle.sl_model.proofs.Worlds.Turns.{run-append}
use Rattle.sl_model.specs.declared.message.Step.{Step}
use Rattle.sl_model.specs.History.{World, Losses}
use Rattle.sl_model.specs.Setup.{Setup}
use Rattle.sl_model.specs.World.{Entry, start, next_step, after, turn, run, world, kept_from}

replicate-map : {A B : Type 0} (y : B) (xs : List A) → replicate (length xs) y ≡ map (λ x. y) xs
replicate-map y [] = refl
replicate-map y (x ∷ xs) = ap (λ r. y ∷ r) (replicate-map y xs)

pub start_replicate : (net : Net) → replicate (length net.actors) [] ≡ start net
start_replicate net = replicate-map [] net.actors

-- Idle entries.

idle-after : (w : World) (a : ℕ) (o : Option Step) → is_some o ≡ false → w ≡ after w a o
idle-after w a None h = refl
idle-after w a (Some step) h = cc

run-step : (s : Setup) (lost : Losses) (w : World) (e : Entry) (es : List Entry) (b : Bool) → is_some (next_step s lost w e) ≡ b
    → ((u : World) → run s lost u (kept_from s lost u es) ≡ run s lost u es)
    → run s lost w (cond b (e ∷ kept_from s lost (turn s lost w e) es) (kept_from s lost w es)) ≡ run s lost (turn s lost w e) es
run-step s lost w e es true q ih = ih (turn s lost w e)
run-step s lost w e es false q ih = ih w ∙ ap (λ u. run s lost u es) (idle-after w e.0 (next_step s lost w e) q)

pub run-kept : (s : Setup) (lost : Losses) (w : World) (es : List Entry) → run s lost w (kept_from s lost w es) ≡ run s lost w es
run-kept s lost w [] = refl
run-kept s lost w (e ∷ es) = run-step s lost w e es (is_some (next_step s lost w e)) refl (λ u. run-kept s lost u es)

-- One schedule after another.

kept-append-step : (s : Setup) (lost : Losses) (w v : World) (e : Entry) (b : Bool) (xs ys : List Entry)
    → ((u : World) → kept_from s lost u (xs ++ ys) ≡ kept_from s lost u xs ++ kept_from s lost (run s lost u xs) ys)
    → (b ≡ false → w ≡ v)
    → cond b (e ∷ kept_from s lost v (xs ++ ys)) (kept_from s lost w (xs ++ ys)) ≡ cond b (e ∷ kept_from s lost v xs) (kept_from s lost w xs) ++ kept_from s lost (run s lost v xs) ys
kept-append-step s lost w v e true xs ys ih same = ap (λ r. e ∷ r) (ih v)
kept-append-step s lost w v e false xs ys ih same = let q : w ≡ v = same refl in subst (λ u. kept_from s lost w (xs ++ ys) ≡ kept_from s lost w xs ++ kept_from s lost (run s lost u xs) ys) q (ih w)

pub kept-append : (s : Setup) (lost : Losses) (w : World) (xs ys : List Entry) → kept_from s lost w (xs ++ ys) ≡ kept_from s lost w xs ++ kept_from s lost (run s lost w xs) ys
kept-append s lost w [] ys = refl
kept-append s lost w (e ∷ xs) ys = kept-append-step s lost w (turn s lost w e) e (is_some (next_step s lost w e)) xs ys (λ u. kept-append s lost u xs ys)
    (idle-after w e.0 (next_step s lost w e))

-- one entry more
pub world-more : (s : Setup) (lost : Losses) (es : List Entry) (i : ℕ) (e d : Entry) (w v : World) → i < length es → get_or es i d ≡ e
    → w ≡ world s lost (take i es) → v ≡ turn s lost w e → v ≡ world s lost (take (i + 1) es)
world-more s lost es i e d w v h q there next = next ∙ ap (λ u. turn s lost u e) there
    ∙ sym (ap (world s lost) (take_more es i d h ∙ ap (λ x. take i es ++ x ∷ []) q) ∙ run-append s lost (start s.net) (take i es) (e ∷ []))
