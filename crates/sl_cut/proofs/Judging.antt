-- Loops that judge and count, and sums over the units of a net.
use Rattle.std.proofs.Common.{◌≡◌, ℕ, ◌+◌, ◌<◌, ◌≤◌, List, [], ◌∷◌, length, take, get_or, refl, sym, ap, ◌∙◌, Option, Some, None, arith}
use Rattle.std.specs.Prelude.{◌^◌, Bool, true, false, min, unwrap_or, slice_index_or, filter, cond}
use Rattle.std.proofs.lemmas.List.FromFn.{length-range_with_len}
use Rattle.std.proofs.lemmas.List.Sums.{length-filter, count_by-le-length}
use Rattle.sl_saves.specs.declared.entry.Total.{Total}
use Rattle.sl_model.specs.Words.{weigh}
use Rattle.sl_route.specs.Least.{least, least_in}
use Rattle.sl_saves.specs.Keeping.{no_total}
use Rattle.sl_model.specs.Findings.{eight_totals, ingress_units, is_ingress}
use Rattle.sl_model.specs.History.{World, history, steps_in}
use Rattle.sl_model.specs.Turns.{TakesTurns}
use Rattle.sl_parts.specs.Parts.{below}
use Rattle.sl_model.proofs.Lists.Weighed.{weigh_more, weigh_take}
use Rattle.sl_layout.specs.Net.{Net, actor_of, is_unit, units}

-- The least of some numbers, with one before them.

least-from : (a : ℕ) (xs : List ℕ) → least_in (Some a) xs ≡ Some (min (unwrap_or (least xs) a) a)
least-from a [] = let e : a ≡ min a a = omega arith in ap Some e
least-from a (y ∷ ys) = let e : min y y ≡ y = omega arith in
    least-from (min a y) ys ∙ both (least ys) ∙ ap (λ o. Some (min (unwrap_or o a) a)) (sym (ap (λ n. least_in (Some n) ys) e ∙ least-from y ys))
  where
    both : (o : Option ℕ) → Some (min (unwrap_or o (min a y)) (min a y)) ≡ Some (min (min (unwrap_or o y) y) a)
    both None = let e : min (min a y) (min a y) ≡ min (min y y) a = omega arith in ap Some e
    both (Some z) = let e : min z (min a y) ≡ min (min z y) a = omega arith in ap Some e

pub least_cons : (x : ℕ) (xs : List ℕ) → least (x ∷ xs) ≡ Some (min (unwrap_or (least xs) x) x)
least_cons x xs = let e : min x x ≡ x = omega arith in ap (λ n. least_in (Some n) xs) e ∙ least-from x xs

pub least_if : (b : Bool) (x : ℕ) (xs : List ℕ) → least (cond b (x ∷ xs) xs) ≡ cond b (Some (min (unwrap_or (least xs) x) x)) (least xs)
least_if true x xs = least_cons x xs
least_if false x xs = refl

-- Eight places.

pub eight_places : (ts : List Total) → eight_totals ts
    ≡ slice_index_or ts 0 no_total ∷ slice_index_or ts 1 no_total ∷ slice_index_or ts 2 no_total ∷ slice_index_or ts 3 no_total
    ∷ slice_index_or ts 4 no_total ∷ slice_index_or ts 5 no_total ∷ slice_index_or ts 6 no_total ∷ slice_index_or ts 7 no_total ∷ []
eight_places [] = refl
eight_places (a ∷ []) = refl
eight_places (a ∷ b ∷ []) = refl
eight_places (a ∷ b ∷ c ∷ []) = refl
eight_places (a ∷ b ∷ c ∷ d ∷ []) = refl
eight_places (a ∷ b ∷ c ∷ d ∷ e ∷ []) = refl
eight_places (a ∷ b ∷ c ∷ d ∷ e ∷ f ∷ []) = refl
eight_places (a ∷ b ∷ c ∷ d ∷ e ∷ f ∷ g ∷ []) = refl
eight_places (a ∷ b ∷ c ∷ d ∷ e ∷ f ∷ g ∷ h ∷ ts) = refl

-- Totals.

pub total-same : (t : Total) (p b : ℕ) → t.packets ≡ p → t.bytes ≡ b → t ≡ record { packets = p; bytes = b }
total-same t p b e f = rw (← e, ← f) refl

-- A sum over those of a list that pass is one over all of it, where the others count nothing.
pub weigh_passing : (f : ℕ → ℕ) (test : ℕ → Bool) (xs : List ℕ) → weigh (λ x. cond (test x) (f x) 0) xs ≡ weigh f (filter test xs)
weigh_passing f test [] = refl
weigh_passing f test (x ∷ xs) = by_test (test x) (weigh_passing f test xs)
  where
    by_test : (b : Bool) → weigh (λ y. cond (test y) (f y) 0) xs ≡ weigh f (filter test xs) → cond b (f x) 0 + weigh (λ y. cond (test y) (f y) 0) xs ≡ weigh f (cond b (x ∷ filter test xs) (filter test xs))
    by_test true e = omega (arith, e)
    by_test false e = omega (arith, e)

-- one element more
pub weigh_next : {A : Type 0} (f : A → ℕ) (xs : List A) (i : ℕ) (d x : A) → i < length xs → x ≡ get_or xs i d → weigh f (take (i + 1) xs) ≡ weigh f (take i xs) + f x
weigh_next f xs i d x h e = weigh_more f xs i d h ∙ ap (λ y. weigh f (take i xs) + f y) (sym e)

-- a count of each ingress unit, 0 of another actor
abbrev pub counted : Net → (ℕ → ℕ) → ℕ → ℕ
counted net f u = cond (is_ingress (actor_of net u)) (f u) 0

abbrev pub steps : World → ℕ → ℕ
steps w u = length (history w u)

pub whole : (net : Net) (f : ℕ → ℕ) (us : List ℕ) → us ≡ units net → weigh (counted net f) us ≡ weigh f (ingress_units net)
whole net f us e = ap (weigh (counted net f)) e ∙ weigh_passing f (λ u. is_ingress (actor_of net u)) (units net)

-- the steps of some units are fewer than 2^40, where those of all actors are
pub room : TakesTurns → (net : Net) (w : World) (us : List ℕ) (i : ℕ) → us ≡ units net → length w ≡ length net.actors → steps_in w < 2 ^ 40 → i < length us
    → weigh (counted net (steps w)) (take i us) + counted net (steps w) (get_or us i 0) < 2 ^ 40
room turns net w us i e a s h =
    omega (arith, weigh_more (counted net (steps w)) us i 0 h, weigh_take (counted net (steps w)) us (i + 1), whole net (steps w) us e, turns.ingress net w a, s)

pub few_units : (net : Net) → length net.actors ≤ 1217 → length (units net) ≤ 1217
few_units net h = let n = length net.actors in
    omega (arith, h, length-filter (λ a. is_unit (actor_of net a)) (below n), count_by-le-length (λ a. is_unit (actor_of net a)) (below n), length-range_with_len 0 n)
