-- What the sums of units are: for each unit the steps that come before it is read; and what is read by them: what the histories of the first entries
-- count.
use Rattle.std.proofs.Common.{◌≡◌, ℕ, ◌+◌, ◌<◌, ◌≤◌, ◌⊎◌, List, [], ◌∷◌, ◌++◌, length, get_or, set, map, refl, sym, ap, subst, ◌∙◌, arith, inl, inr, zero, suc, take, Option, Some, None, eq-eqb}
use Rattle.std.specs.Prelude.{Bool, true, false, cond, filter, ◌&&◌, nat_eq, nat_le, ◌==◌, if◌then◌else◌, unwrap_or, option_map, find}
use Rattle.std.proofs.lemmas.Bool.Decides.{eqb_tells, leb_tells}
use Rattle.std.proofs.lemmas.List.{get_or-set_same, get_or-set_other, length-set}
use Rattle.sl_parts.specs.Parts.{below}
use Rattle.sl_layout.proofs.Grouping.{map_same}
use Rattle.sl_poll.specs.declared.trail.Counted.{Counted}
use Rattle.sl_poll.specs.declared.sums.Sum.{Sum}
use Rattle.sl_poll.specs.Sums.{is_read, bytes_in, read_by, no_sum, sum_at, with_one, add_one, read_of_sum, Summed, read_in}
use Rattle.sl_parts.specs.Lists.{Member}
use Rattle.sl_parts.proofs.Lists.{inside, distinct-filter, distinct-from, each-passes, each-index, Distinct}
use Rattle.sl_net.specs.declared.input.Packet.{Packet}
use Rattle.sl_layout.specs.declared.actor.ActorId.{ActorId}
use Rattle.sl_layout.specs.declared.actor.ActorId.TheVariants.{Observer, Control, Unit as OfUnit, Host as OfHost}
use Rattle.sl_layout.specs.Net.{Net, is_unit, actor_of, units, unit_place, place_in}
use Rattle.sl_net.specs.Ways.{HasWays}
use Rattle.sl_model.specs.declared.message.Step.{Step}
use Rattle.sl_model.specs.History.{History, World, Losses, history}
use Rattle.sl_model.specs.Counting.{counted, packets, bytes}
use Rattle.sl_model.specs.Setup.{Setup}
use Rattle.sl_model.specs.World.{Entry, start, next_step, after, turn, run, world}
use Rattle.sl_model.specs.Turns.{GrowsAt, TakesTurns}
use Rattle.sl_poll.specs.declared.reading.Read1.{Read1}
use Rattle.sl_poll.specs.declared.trail.Pair.{Pair}
use Rattle.sl_poll.specs.Trail.{pairs, count_of, count_by, counted_from, all_counted}
use Rattle.sl_poll.specs.Reading.{read_after, read, reads, breaks, broken_by}
use Rattle.sl_poll.proofs.Moves.{Sized, sized-start, sized-turn, step-grows}

-- what a step counts for the unit at a place, up to an entry
abbrev pub here : ℕ → (Counted → ℕ) → ℕ → Counted → ℕ
here t value i c = cond (c.unit == i) (cond (nat_le c.entry t) (value c) 0) 0

abbrev pub counted_for : ℕ → (Counted → ℕ) → ℕ → List Counted → ℕ
counted_for t value i [] = 0
counted_for t value i (c ∷ cs) = here t value i c + counted_for t value i cs

pub counted-append : (t : ℕ) (value : Counted → ℕ) (i : ℕ) (cs ds : List Counted) → counted_for t value i (cs ++ ds) ≡ counted_for t value i cs + counted_for t value i ds
counted-append t value i [] ds = omega arith
counted-append t value i (c ∷ cs) ds = omega (arith, counted-append t value i cs ds)

module _ (value : Counted → ℕ) (part : Sum → ℕ) (law : (c : Counted) (sum : Sum) → part (with_one c sum) ≡ part sum + value c) (at : ℕ → ℕ) where
  sizes : (c : Counted) (sums : List Sum) → length (add_one at c sums) ≡ length sums
  sizes c sums = go (nat_le c.entry (at c.unit))
    where
      go : (b : Bool) → length (if b then set sums c.unit (with_one c (get_or sums c.unit no_sum)) else sums) ≡ length sums
      go true = length-set sums c.unit (with_one c (get_or sums c.unit no_sum))
      go false = refl

  one-added : (c : Counted) (sums : List Sum) (i : ℕ) → i < length sums → part (get_or (add_one at c sums) i no_sum) ≡ part (get_or sums i no_sum) + here (at i) value i c
  one-added c sums i h = go (leb_tells c.entry (at c.unit)) (eqb_tells c.unit i)
    where
      more : Sum
      more = with_one c (get_or sums c.unit no_sum)

      if_read : (b : Bool) → nat_le c.entry (at c.unit) ≡ b → part (get_or (add_one at c sums) i no_sum) ≡ part (get_or (if b then set sums c.unit more else sums) i no_sum)
      if_read b q = ap (λ b. part (get_or (if b then set sums c.unit more else sums) i no_sum)) q

      adds : (b d : Bool) → nat_eq c.unit i ≡ b → nat_le c.entry (at i) ≡ d → here (at i) value i c ≡ cond b (cond d (value c) 0) 0
      adds b d p q = ap (λ b. cond b (cond (nat_le c.entry (at i)) (value c) 0) 0) p ∙ ap (λ d. cond b (cond d (value c) 0) 0) q

      none : (b : Bool) → nat_eq c.unit i ≡ false → here (at i) value i c ≡ 0
      none b p = ap (λ b. cond b (cond (nat_le c.entry (at i)) (value c) 0) 0) p

      go : ((nat_le c.entry (at c.unit) ≡ true) × (c.entry ≤ at c.unit)) ⊎ ((nat_le c.entry (at c.unit) ≡ false) × (at c.unit < c.entry))
          → ((nat_eq c.unit i ≡ true) × (c.unit ≡ i)) ⊎ ((nat_eq c.unit i ≡ false) × (c.unit ≡ i → ⊥))
          → part (get_or (add_one at c sums) i no_sum) ≡ part (get_or sums i no_sum) + here (at i) value i c
      go (inl x) (inl y) = if_read true x.0 ∙ ap (λ k. part (get_or (set sums k (with_one c (get_or sums k no_sum))) i no_sum)) y.1
          ∙ ap part (get_or-set_same sums i (with_one c (get_or sums i no_sum)) no_sum h) ∙ law c (get_or sums i no_sum)
          ∙ ap (λ n. part (get_or sums i no_sum) + n) (sym (adds true true y.0 (subst (λ k. nat_le c.entry (at k) ≡ true) y.1 x.0)))
      go (inl x) (inr y) = let e = none true y.0 in
          if_read true x.0 ∙ ap part (get_or-set_other sums c.unit i more no_sum (λ q. y.1 (sym q))) ∙ omega (arith, e)
      go (inr x) (inl y) = let e = adds true false y.0 (subst (λ k. nat_le c.entry (at k) ≡ false) y.1 x.0) in if_read false x.0 ∙ omega (arith, e)
      go (inr x) (inr y) = let e = none true y.0 in if_read false x.0 ∙ omega (arith, e)

-- counting by steps is counting those that pass

pub counted-length : (t i : ℕ) (cs : List Counted) → counted_for t (λ c. 1) i cs ≡ length (filter (is_read t i) cs)
counted-length t i [] = refl
counted-length t i (c ∷ cs) = by_tests (c.unit == i) (nat_le c.entry t) (counted-length t i cs)
  where
    by_tests : (b d : Bool) → counted_for t (λ c. 1) i cs ≡ length (filter (is_read t i) cs)
        → cond b (cond d 1 0) 0 + counted_for t (λ c. 1) i cs ≡ length (cond (b && d) (c ∷ filter (is_read t i) cs) (filter (is_read t i) cs))
    by_tests true true ih = omega (arith, ih)
    by_tests true false ih = omega (arith, ih)
    by_tests false d ih = omega (arith, ih)

pub counted-bytes : (t i : ℕ) (cs : List Counted) → counted_for t (λ c. c.bytes) i cs ≡ bytes_in (filter (is_read t i) cs)
counted-bytes t i [] = refl
counted-bytes t i (c ∷ cs) = by_tests (c.unit == i) (nat_le c.entry t) (counted-bytes t i cs)
  where
    by_tests : (b d : Bool) → counted_for t (λ c. c.bytes) i cs ≡ bytes_in (filter (is_read t i) cs)
        → cond b (cond d c.bytes 0) 0 + counted_for t (λ c. c.bytes) i cs ≡ bytes_in (cond (b && d) (c ∷ filter (is_read t i) cs) (filter (is_read t i) cs))
    by_tests true true ih = omega (arith, ih)
    by_tests true false ih = omega (arith, ih)
    by_tests false d ih = omega (arith, ih)

-- The sums of so many units.

pub summed_more : (at : ℕ → ℕ) (cs : List Counted) (count : ℕ) (c : Counted) (sums new : List Sum) → Summed at cs count sums → new ≡ add_one at c sums → Summed at (cs ++ c ∷ []) count new
summed_more at cs count c sums new s q = record {
  each = ap length q ∙ sizes (λ c. 1) (λ (x : Sum). x.packets) (λ c x. refl) at c sums ∙ s.each;
  packets = λ i h. (let one = one-added (λ c. 1) (λ (x : Sum). x.packets) (λ c x. refl) at c sums i (omega (arith, h, s.each)) in
      omega (arith, ap (λ xs. (sum_at xs i).packets) q, one, s.packets i h, counted-length (at i) i cs, counted-length (at i) i (cs ++ c ∷ []), counted-append (at i) (λ c. 1) i cs (c ∷ [])));
  bytes = λ i h. (let one = one-added (λ c. c.bytes) (λ (x : Sum). x.bytes) (λ c x. refl) at c sums i (omega (arith, h, s.each)) in
      omega (arith, ap (λ xs. (sum_at xs i).bytes) q, one, s.bytes i h, counted-bytes (at i) i cs, counted-bytes (at i) i (cs ++ c ∷ []), counted-append (at i) (λ c. c.bytes) i cs (c ∷ [])));
}

-- what is read of the sums is what is read of the steps
pub reads_same : (at : ℕ → ℕ) (cs : List Counted) (count : ℕ) (sums : List Sum) → Summed at cs count sums → map (read_of_sum at sums) (below count) ≡ map (read_by at cs) (below count)
reads_same at cs count sums s = map_same (read_of_sum at sums) (read_by at cs) count
    (λ i h. (let p = s.packets i h in let b = s.bytes i h in λ j. record { unit = i; at = at i; packets = p j; bytes = b j }))

-- total adds up what steps gain, and this is what is told of them
module _ (value : Counted → ℕ) (total : History → ℕ) (gain : Option Packet → ℕ) (nothing : total [] ≡ 0) (none : gain None ≡ 0)
    (more : (step : Step) (h : History) → total (step ∷ h) ≡ total h + gain (counted step))
    (worth : (place n : ℕ) (p : Packet) → value (record { unit = place; entry = n; bytes = p.len }) ≡ gain (Some p))
    (s : Setup) (lost : Losses) (a : ℕ) (one : (x : ℕ) → unit_place s.net x ≡ unit_place s.net a → x ≡ a) (unit : is_unit (actor_of s.net a) ≡ true) where
  abbrev told : ℕ → List Counted → ℕ
  told t cs = counted_for t value (unit_place s.net a) cs

  late-one : (t n place : ℕ) (b : Bool) (o : Option Packet) → t < n → told t (cond b (count_of place n o) []) ≡ 0
  late-one t n place false o h = refl
  late-one t n place true None h = refl
  late-one t n place true (Some p) h = go (leb_tells n t)
    where
      r : Counted
      r = record { unit = place; entry = n; bytes = p.len }

      by_unit : (b : Bool) (k : ℕ) → cond b k k ≡ k
      by_unit true k = refl
      by_unit false k = refl

      go : ((nat_le n t ≡ true) × (n ≤ t)) ⊎ ((nat_le n t ≡ false) × (t < n)) → told t (r ∷ []) ≡ 0
      go (inl x) = absurd (omega (arith, h, x.1))
      go (inr x) = let e : here t value (unit_place s.net a) r ≡ 0 = ap (λ d. cond (place == unit_place s.net a) (cond d (value r) 0) 0) x.0 ∙ by_unit (place == unit_place s.net a) 0 in omega (arith, e)

  off-one : (t n place : ℕ) (b : Bool) (o : Option Packet) → (place ≡ unit_place s.net a → ⊥) → told t (cond b (count_of place n o) []) ≡ 0
  off-one t n place false o h = refl
  off-one t n place true None h = refl
  off-one t n place true (Some p) h = go (eqb_tells place (unit_place s.net a))
    where
      r : Counted
      r = record { unit = place; entry = n; bytes = p.len }

      go : ((nat_eq place (unit_place s.net a) ≡ true) × (place ≡ unit_place s.net a)) ⊎ ((nat_eq place (unit_place s.net a) ≡ false) × (place ≡ unit_place s.net a → ⊥)) → told t (r ∷ []) ≡ 0
      go (inl x) = absurd (h x.1)
      go (inr x) = let e : here t value (unit_place s.net a) r ≡ 0 = ap (λ d. cond d (cond (nat_le n t) (value r) 0) 0) x.0 in omega (arith, e)

  on-one : (t n : ℕ) (o : Option Packet) → n ≤ t → told t (count_of (unit_place s.net a) n o) ≡ gain o
  on-one t n None h = sym none
  on-one t n (Some p) h = go (leb_tells n t)
    where
      r : Counted
      r = record { unit = unit_place s.net a; entry = n; bytes = p.len }

      go : ((nat_le n t ≡ true) × (n ≤ t)) ⊎ ((nat_le n t ≡ false) × (t < n)) → told t (r ∷ []) ≡ gain (Some p)
      go (inl x) = let e : here t value (unit_place s.net a) r ≡ value r = ap (λ d. cond d (cond (nat_le n t) (value r) 0) 0) (eq-eqb (unit_place s.net a) (unit_place s.net a) refl) ∙ ap (λ d. cond d (value r) 0) x.0 in
          omega (arith, e, worth (unit_place s.net a) n p)
      go (inr x) = absurd (omega (arith, h, x.1))

  late-step : (t n b : ℕ) (o : Option Step) → t < n → told t (count_by s.net n b o) ≡ 0
  late-step t n b None h = refl
  late-step t n b (Some step) h = late-one t n (unit_place s.net b) (is_unit (actor_of s.net b)) (counted step) h

  late : (t n : ℕ) (w : World) (es : List Entry) → t < n → told t (counted_from s lost w n es) ≡ 0
  late t n w [] h = refl
  late t n w (e ∷ es) h = let rest = late t (suc n) (turn s lost w e) es (omega (arith, h)) in
      let this = late-step t n e.0 (next_step s lost w e) h in
      omega (arith, this, rest, counted-append t value (unit_place s.net a) (count_by s.net n e.0 (next_step s lost w e)) (counted_from s lost (turn s lost w e) (suc n) es))

  this-step : (t n : ℕ) (w : World) (e : Entry) → Sized s w → n ≤ t → total (history (turn s lost w e) a) ≡ total (history w a) + told t (count_by s.net n e.0 (next_step s lost w e))
  this-step t n w e z h = go (next_step s lost w e) refl
    where
      go : (o : Option Step) → next_step s lost w e ≡ o → total (history (after w e.0 o) a) ≡ total (history w a) + told t (count_by s.net n e.0 o)
      go None q = omega arith
      go (Some step) q = by_actor (eqb_tells e.0 a)
        where
          grows : GrowsAt w (after w e.0 (Some step)) e.0 step
          grows = step-grows s lost w e step z q

          by_actor : ((nat_eq e.0 a ≡ true) × (e.0 ≡ a)) ⊎ ((nat_eq e.0 a ≡ false) × (e.0 ≡ a → ⊥))
              → total (history (after w e.0 (Some step)) a) ≡ total (history w a) + told t (count_by s.net n e.0 (Some step))
          by_actor (inl x) =
              let same : history (after w e.0 (Some step)) a ≡ step ∷ history w a = ap (history (after w e.0 (Some step))) (sym x.1) ∙ grows.same ∙ ap (λ b. step ∷ history w b) x.1 in
              let tells : told t (count_by s.net n e.0 (Some step)) ≡ gain (counted step)
              = ap (λ b. told t (count_by s.net n b (Some step))) x.1 ∙ ap (λ b. told t (cond b (count_of (unit_place s.net a) n (counted step)) [])) unit ∙ on-one t n (counted step) h in
              omega (arith, ap total same, more step (history w a), tells)
          by_actor (inr x) =
              let same = grows.other a (λ k. x.1 (sym k)) in
              let tells = off-one t n (unit_place s.net e.0) (is_unit (actor_of s.net e.0)) (counted step) (λ k. x.1 (one e.0 k)) in
              omega (arith, ap total same, tells)

  early : (t n k : ℕ) (w : World) (es : List Entry) → Sized s w → t + 1 ≡ n + k → total (history (run s lost w (take k es)) a) ≡ total (history w a) + told t (counted_from s lost w n es)
  early t n zero w [] z h = omega arith
  early t n (suc k) w [] z h = omega arith
  early t n zero w (e ∷ es) z h = omega (arith, late t n w (e ∷ es) (omega (arith, h)))
  early t n (suc k) w (e ∷ es) z h =
      let rest = early t (suc n) k (turn s lost w e) es (sized-turn s lost w e z) (omega (arith, h)) in
      let this = this-step t n w e z (omega (arith, h)) in
      omega (arith, rest, this, counted-append t value (unit_place s.net a) (count_by s.net n e.0 (next_step s lost w e)) (counted_from s lost (turn s lost w e) (suc n) es))

  pub counts-are : TakesTurns → (t : ℕ) (es : List Entry) → counted_for t value (unit_place s.net a) (all_counted s lost es) ≡ total (history (world s lost (take t es)) a)
  counts-are turns t es = let e = early t 1 t (start s.net) es (sized-start s) (omega arith) in
      omega (arith, e, ap total (turns.starts s.net a), nothing)

-- Units by their places.

place-at : (n : ℕ) (xs : List ℕ) (i d : ℕ) → Distinct xs → i < length xs → place_in n (get_or xs i d) xs ≡ n + i
place-at n [] i d u h = absurd (omega (arith, h))
place-at n (y ∷ ys) zero d u h = ap (λ b. if b then n else place_in (suc n) y ys) (eq-eqb y y refl) ∙ omega arith
place-at n (y ∷ ys) (suc i) d u h = go (place-at (suc n) ys i d u.1 (omega (arith, h))) (eqb_tells y (get_or ys i d))
  where
    go : place_in (suc n) (get_or ys i d) ys ≡ suc n + i → ((nat_eq y (get_or ys i d) ≡ true) × (y ≡ get_or ys i d)) ⊎ ((nat_eq y (get_or ys i d) ≡ false) × (y ≡ get_or ys i d → ⊥)) → place_in n (get_or ys i d) (y ∷ ys) ≡ n + suc i
    go ih (inl x) = absurd (u.0 (subst (λ k. Member k ys) (sym x.1) (inside ys i d (omega (arith, h)))))
    go ih (inr x) = ap (λ b. if b then n else place_in (suc n) (get_or ys i d) ys) x.0 ∙ omega (arith, ih)

place-of : (net : Net) (i : ℕ) → i < length (units net) → unit_place net (get_or (units net) i 0) ≡ i
place-of net i h = let e = place-at 0 (units net) i 0 (distinct-filter (λ a. is_unit (actor_of net a)) (below (length net.actors)) (distinct-from 0 (length net.actors))) h in omega (arith, e)

is-unit : (net : Net) (i : ℕ) → i < length (units net) → is_unit (actor_of net (get_or (units net) i 0)) ≡ true
is-unit net i h = each-index (λ a. is_unit (actor_of net a) ≡ true) (units net) i 0 (each-passes (λ a. is_unit (actor_of net a)) (below (length net.actors))) h

one-place : (net : Net) → HasWays net → (a x : ℕ) → is_unit (actor_of net a) ≡ true → unit_place net x ≡ unit_place net a → x ≡ a
one-place net ways a x unit q = go (actor_of net a) refl unit
  where
    go : (actor : ActorId) → actor_of net a ≡ actor → is_unit actor ≡ true → x ≡ a
    go Observer k h = absurd cc
    go (Control d) k h = absurd cc
    go (OfUnit i) k h = ways.one_unit a x i k q
    go (OfHost d) k h = absurd cc

-- the entries fs are those of the schedule, as far as units are read
pub reads-are : (s : Setup) (lost : Losses) (es fs : List Entry) (begin gap : ℕ) → TakesTurns → HasWays s.net
    → ((i : ℕ) → i < length (units s.net) → take (read_after (length es) begin gap i) fs ≡ take (read_after (length es) begin gap i) es)
    → map (read_by (read_after (length es) begin gap) (all_counted s lost fs)) (below (length (units s.net))) ≡ reads s lost es begin gap
reads-are s lost es fs begin gap turns ways front = map_same (read_by at (all_counted s lost fs)) (read s lost es begin gap) (length (units s.net)) each
  where
    at : ℕ → ℕ
    at = read_after (length es) begin gap

    each : (i : ℕ) → i < length (units s.net) → read_by at (all_counted s lost fs) i ≡ read s lost es begin gap i
    each i h =
        let a = get_or (units s.net) i 0 in
        let place = place-of s.net i h in
        let unit = is-unit s.net i h in
        let one : (x : ℕ) → unit_place s.net x ≡ unit_place s.net a → x ≡ a = λ x q. one-place s.net ways a x unit q in
        let p : length (read_in at (all_counted s lost fs) i) ≡ packets (history (world s lost (take (at i) es)) a) =
        sym (counted-length (at i) i (all_counted s lost fs)) ∙ sym (ap (λ j. counted_for (at i) (λ c. 1) j (all_counted s lost fs)) place)
        ∙ counts-are (λ c. 1) packets (λ o. unwrap_or (option_map (λ p. 1) o) 0) refl refl (λ step h. refl) (λ place n p. refl) s lost a one unit turns (at i) fs
        ∙ ap (λ xs. packets (history (world s lost xs) a)) (front i h) in
        let b : bytes_in (read_in at (all_counted s lost fs) i) ≡ bytes (history (world s lost (take (at i) es)) a) =
        sym (counted-bytes (at i) i (all_counted s lost fs)) ∙ sym (ap (λ j. counted_for (at i) (λ c. c.bytes) j (all_counted s lost fs)) place)
        ∙ counts-are (λ c. c.bytes) bytes (λ o. unwrap_or (option_map (λ p. p.len) o) 0) refl refl (λ step h. refl) (λ place n p. refl) s lost a one unit turns (at i) fs
        ∙ ap (λ xs. bytes (history (world s lost xs) a)) (front i h) in
        λ j. record { unit = i; at = at i; packets = p j; bytes = b j }

-- The same of a net and a list that are the run's.

abbrev by_steps : ℕ → ℕ → ℕ → Net → List Counted → List Read1
by_steps begin gap count net cs = map (read_by (read_after count begin gap) cs) (below (length (units net)))

pub reads-from : (s : Setup) (lost : Losses) (es fs : List Entry) (begin gap count : ℕ) (net : Net) (cs : List Counted) (rs : List Read1) → TakesTurns → HasWays net → s.net ≡ net → length es ≡ count → cs ≡ all_counted s lost fs
    → ((i : ℕ) → i < length (units s.net) → take (read_after (length es) begin gap i) fs ≡ take (read_after (length es) begin gap i) es)
    → rs ≡ map (read_by (read_after count begin gap) cs) (below (length (units net))) → rs ≡ reads s lost es begin gap
reads-from s lost es fs begin gap count net cs rs turns ways n k q front e = e ∙ ap (λ j. by_steps begin gap j net cs) (sym k) ∙ ap (λ j. by_steps begin gap (length es) j cs) (sym n)
    ∙ ap (by_steps begin gap (length es) s.net) q ∙ reads-are s lost es fs begin gap turns (subst HasWays (sym n) ways) front

pub broken-from : (s : Setup) (lost : Losses) (es fs : List Entry) (begin gap count : ℕ) (net : Net) (ps : List Pair) (o : Option Pair) → s.net ≡ net → length es ≡ count → ps ≡ pairs s lost fs
    → find (breaks s.net (length es) begin gap) (pairs s lost fs) ≡ broken_by s lost es begin gap → o ≡ find (breaks net count begin gap) ps → o ≡ broken_by s lost es begin gap
broken-from s lost es fs begin gap count net ps o n k q front e = e ∙ ap (λ j. find (breaks net j begin gap) ps) (sym k) ∙ ap (λ j. find (breaks j (length es) begin gap) ps) (sym n)
    ∙ ap (find (breaks s.net (length es) begin gap)) q ∙ front
