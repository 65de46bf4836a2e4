-- How many steps a world has.
use Rattle.std.proofs.Common.{◌≡◌, ℕ, zero, suc, ◌+◌, ◌≤◌, List, [], ◌∷◌, length, refl, sym, subst, Option, Some, None, arith, ap}
use Rattle.std.specs.Prelude.{slice_set, filter, map, Bool, true, false, cond}
use Rattle.std.specs.List.{range_with_len}
use Rattle.sl_parts.specs.Parts.{below}
use Rattle.sl_layout.specs.Net.{Net, units, is_unit, actor_of}
use Rattle.sl_layout.specs.declared.actor.ActorId.{ActorId}
use Rattle.sl_model.specs.declared.message.Step.{Step}
use Rattle.sl_model.specs.Words.{weigh}
use Rattle.sl_model.specs.History.{History, World, Losses, history, steps_in}
use Rattle.sl_model.specs.Setup.{Setup}
use Rattle.sl_model.specs.World.{Entry, start, next_step, after, turn, run}
use Rattle.sl_model.specs.Findings.{ingress_units, is_ingress}

weigh-set : (w : World) (a : ℕ) (h : History) → weigh length (slice_set w a h) + length (history w a) ≤ weigh length w + length h
weigh-set [] a h = omega arith
weigh-set (g ∷ w) zero h = omega arith
weigh-set (g ∷ w) (suc a) h = let k = weigh-set w a h in omega (arith, k)

after-size : (w : World) (a : ℕ) (o : Option Step) → steps_in (after w a o) ≤ steps_in w + 1
after-size w a None = omega arith
after-size w a (Some step) = let k = weigh-set w a (step ∷ history w a) in omega (arith, k)

pub run-size : (s : Setup) (lost : Losses) (w : World) (es : List Entry) → steps_in (run s lost w es) ≤ steps_in w + length es
run-size s lost w [] = omega arith
run-size s lost w (e ∷ es) = let k = run-size s lost (turn s lost w e) es in let t = after-size w e.0 (next_step s lost w e) in omega (arith, k, t)

pub start-size : (net : Net) → steps_in (start net) ≡ 0
start-size net = no-steps net.actors
  where
    no-steps : (actors : List ActorId) → weigh (length {A = Step}) (map (λ a. []) actors) ≡ 0
    no-steps [] = refl
    no-steps (a ∷ actors) = let k = no-steps actors in omega (arith, k)

-- what a schedule no longer than this reaches
pub world_size : (s : Setup) (lost : Losses) (w : World) (es : List Entry) → w ≡ run s lost (start s.net) es → steps_in w ≤ length es
world_size s lost w es e = let k = run-size s lost (start s.net) es in let z = start-size s.net in
    subst (λ v. steps_in v ≤ length es) (sym e) (omega (arith, k, z))

pub weigh-filter : {A : Type 0} (f : A → ℕ) (p : A → Bool) (xs : List A) → weigh f (filter p xs) ≤ weigh f xs
weigh-filter f p [] = omega arith
weigh-filter f p (x ∷ xs) = elim (p x) as (λ b. weigh f (cond b (x ∷ filter p xs) (filter p xs)) ≤ f x + weigh f xs)
    [ true ↦ (let k = weigh-filter f p xs in omega (arith, k)) | false ↦ (let k = weigh-filter f p xs in omega (arith, k)) ]

weigh-shift : (f g : ℕ → ℕ) → ((k : ℕ) → f (suc k) ≡ g k) → (s n : ℕ) → weigh f (range_with_len (suc s) n) ≡ weigh g (range_with_len s n)
weigh-shift f g h s zero = refl
weigh-shift f g h s (suc n) = let m : suc s + 1 ≡ suc (s + 1) = omega arith in omega (arith, weigh-shift f g h (s + 1) n, h s, ap (λ k. weigh f (range_with_len k n)) m)

weigh-below : (w : World) → weigh (λ u. length (history w u)) (below (length w)) ≡ steps_in w
weigh-below [] = refl
weigh-below (h ∷ w) = let k = weigh-shift (λ u. length (history (h ∷ w) u)) (λ u. length (history w u)) (λ k. refl) 0 (length w) in let r = weigh-below w in omega (arith, k, r)

-- the steps of the ingress units
pub ingress_size : (net : Net) (w : World) → length w ≡ length net.actors → weigh (λ u. length (history w u)) (ingress_units net) ≤ steps_in w
ingress_size net w e = let f = λ (u : ℕ). length (history w u) in
    let a = weigh-filter f (λ u. is_ingress (actor_of net u)) (units net) in
    let b = weigh-filter f (λ u. is_unit (actor_of net u)) (below (length net.actors)) in
    let c : weigh f (below (length net.actors)) ≡ steps_in w = subst (λ n. weigh f (below n) ≡ steps_in w) e (weigh-below w) in
    omega (arith, a, b, c)
