-- A wiring in a ring is sound.
use Rattle.std.proofs.Common.{◌≡◌, ℕ, zero, suc, ◌+◌, ◌-◌, ◌<◌, ◌≤◌, ◌^◌, ◌==◌, ◌≢◌, List, [], ◌∷◌, length, map, get_or, replicate, refl, ap, sym, ◌∙◌, subst, arith, inl, inr, if◌then◌else◌}
use Rattle.std.specs.Prelude.{slice_index}
use Rattle.std.specs.List.{All}
use Rattle.std.proofs.lemmas.Bool.{cases_eq}
use Rattle.std.proofs.lemmas.Bool.Decides.{nat_tests}
use Rattle.std.proofs.lemmas.Grind.{common_steps}
use Rattle.std.proofs.lemmas.List.{get_or-map, get_or-replicate, length-map, length-replicate}
use Rattle.sl_machine.specs.Machine.{Counts, IsChoice}
use Rattle.sl_machine.specs.Plan.{Plan, IsSound, link_in, link_out, link_at}
use Rattle.sl_machine.specs.Fit.{HasCounts}
use Rattle.sl_machine.specs.declared.wiring.Link.{Link}
use Rattle.sl_threads.specs.Threads.{ArePlans}
use Rattle.thread_tests.specs.Ring.{next, AreInRing, IsRing}

abbrev ring_link : ℕ → ℕ → Link
ring_link count k = record { from = k; out = 0; to = next count k; choice = 0 }

-- the actor before this one
abbrev before : ℕ → ℕ → ℕ
before count a = if a == 0 then count - 1 else a - 1

next_before : (count a : ℕ) → a < count → next count (before count a) ≡ a
next_before count a low = grind (arith, nat_tests, common_steps)

before_below : (count a : ℕ) → a < count → before count a < count
before_below count a low = grind (arith, nat_tests, common_steps)

next_below : (count k : ℕ) → k < count → next count k < count
next_below count k low = grind (arith, nat_tests, common_steps)

before_next : (count k : ℕ) → k < count → before count (next count k) ≡ k
before_next count k low = grind (arith, nat_tests, common_steps)

-- the search in the links of a ring that begin at k, where the one that is sought is the one at t
found_in : (count : ℕ) (ls : List Link) (k t a : ℕ) → ((i : ℕ) → i < length ls → link_at ls i ≡ ring_link count (k + i)) → k + length ls ≤ count → k ≤ t → t < k + length ls → next count t ≡ a → link_in ls a 0 + k ≡ t
found_in count [] k t a links end low high is = absurd (omega arith)
found_in count (l ∷ ls) k t a links end low high is =
    let first : l ≡ ring_link count k = links 0 (omega arith) ∙ ap (ring_link count) (omega arith) in
    let to_is : l.to ≡ next count k = ap (λ (x : Link). x.to) first in
    let choice_is : l.choice ≡ 0 = ap (λ (x : Link). x.choice) first in
    elim (cases_eq k t) [
      | inl same ↦ let here : l.to ≡ a = to_is ∙ ap (next count) same ∙ is in grind (arith, nat_tests, common_steps)
      | inr other ↦
          let rest : link_in ls a 0 + (k + 1) ≡ t = found_in count ls (k + 1) t a (λ i h. links (suc i) (omega arith) ∙ ap (ring_link count) (omega arith)) (omega arith) (omega arith) (omega arith) is in
          let away : l.to ≢ a = λ e. other (sym (before_next count k (omega arith)) ∙ ap (before count) (sym to_is ∙ e ∙ sym is) ∙ before_next count t (omega arith)) in
          grind (arith, nat_tests, common_steps)
    ]

found_out : (count : ℕ) (ls : List Link) (k a : ℕ) → ((i : ℕ) → i < length ls → link_at ls i ≡ ring_link count (k + i)) → k ≤ a → a < k + length ls → link_out ls a 0 + k ≡ a
found_out count [] k a links low high = absurd (omega arith)
found_out count (l ∷ ls) k a links low high =
    let first : l ≡ ring_link count k = links 0 (omega arith) ∙ ap (ring_link count) (omega arith) in
    let from_is : l.from ≡ k = ap (λ (x : Link). x.from) first in
    let out_is : l.out ≡ 0 = ap (λ (x : Link). x.out) first in
    elim (cases_eq k a) [
      | inl same ↦ grind (arith, nat_tests, common_steps)
      | inr other ↦
          let rest : link_out ls a 0 + (k + 1) ≡ a = found_out count ls (k + 1) a (λ i h. links (suc i) (omega arith) ∙ ap (ring_link count) (omega arith)) (omega arith) (omega arith) in
          grind (arith, nat_tests, common_steps)
    ]

in_is : (count : ℕ) (links : List Link) (a : ℕ) → AreInRing count count links → a < count → link_in links a 0 ≡ before count a
in_is count links a ring low =
    omega (arith, found_in count links 0 (before count a) a (λ i h. ring.is i (omega (arith, ring.each)) ∙ ap (ring_link count) (omega arith)) (omega (arith, ring.each)) (omega arith) (omega (arith, ring.each, before_below count a low)) (next_before count a low))

out_is : (count : ℕ) (links : List Link) (a : ℕ) → AreInRing count count links → a < count → link_out links a 0 ≡ a
out_is count links a ring low = omega (arith, found_out count links 0 a (λ i h. ring.is i (omega (arith, ring.each)) ∙ ap (ring_link count) (omega arith)) (omega arith) (omega (arith, ring.each)))

one : (count : ℕ) (ns : List ℕ) (a : ℕ) → ns ≡ replicate count 1 → a < count → slice_index ns a ≡ 1
one count ns a is low = ap (λ (xs : List ℕ). slice_index xs a) is ∙ get_or-replicate count a 1 0 low

many : (count : ℕ) (ns : List ℕ) → ns ≡ replicate count 1 → length ns ≡ count
many count ns is = ap length is ∙ length-replicate count 1

pub ring_sound : (count : ℕ) (plan : Plan) → count < 2 ^ 32 → IsRing count plan → IsSound plan
ring_sound count plan fits ring =
    let ins = many count plan.ins ring.ins in
    let outs = many count plan.outs ring.outs in
    let actions = many count plan.actions ring.actions in
    let each : length plan.links ≡ count = ring.links.each in
    let at = λ (l : ℕ) (h : l < length plan.links). ring.links.is l (omega arith) in
    let from_at = λ (l : ℕ) (h : l < length plan.links). ap (λ (x : Link). x.from) (at l h) in
    let out_at = λ (l : ℕ) (h : l < length plan.links). ap (λ (x : Link). x.out) (at l h) in
    let to_at = λ (l : ℕ) (h : l < length plan.links). ap (λ (x : Link). x.to) (at l h) in
    let choice_at = λ (l : ℕ) (h : l < length plan.links). ap (λ (x : Link). x.choice) (at l h) in
    record {
      outs_each = outs ∙ sym ins;
      actions_each = actions ∙ sym ins;
      actors_fit = omega arith;
      links_fit = omega arith;
      choices_fit = λ a low. omega (arith, one count plan.ins a ring.ins (omega arith), one count plan.actions a ring.actions (omega arith));
      from_below = λ l low. omega (arith, from_at l low);
      to_below = λ l low. omega (arith, to_at l low, next_below count l (omega arith));
      out_below = λ l low. rw (from_at l low, out_at l low, one count plan.outs l ring.outs (omega arith)) (omega arith);
      choice_below = λ l low. rw (to_at l low, choice_at l low, one count plan.ins (next count l) ring.ins (next_below count l (omega arith))) (omega arith);
      once_out = λ l low. rw (from_at l low, out_at l low) (out_is count plan.links l ring.links (omega arith));
      once_in = λ l low. rw (to_at l low, choice_at l low) (in_is count plan.links (next count l) ring.links (next_below count l (omega arith)) ∙ before_next count l (omega arith));
      each_out = λ a o low h.
          let number : o ≡ 0 = omega (arith, one count plan.outs a ring.outs (omega arith)) in
          rw number (omega (arith, out_is count plan.links a ring.links (omega arith)));
      each_in = λ a n low h.
          let number : n ≡ 0 = omega (arith, one count plan.ins a ring.ins (omega arith)) in
          rw number (omega (arith, in_is count plan.links a ring.links (omega arith), before_below count a (omega arith)));
    }

-- machines that have one of each
ones_of : {A : Type 0} (f : A → ℕ) (xs : List A) (count : ℕ) → ((x : A) → f x ≡ 1) → length xs ≡ count → map f xs ≡ replicate count 1
ones_of f [] zero is long = refl
ones_of f [] (suc n) is long = absurd (omega arith)
ones_of f (x ∷ xs) zero is long = absurd (omega arith)
ones_of f (x ∷ xs) (suc n) is long = rw is (ap (λ (ns : List ℕ). 1 ∷ ns) (ones_of f xs n is (omega arith)))

pub ring_fits : {A : Type 0} (counts : A → Counts) (plan : Plan) (machines : List A) (count : ℕ) → ((x : A) → counts x ≡ record { ins = 1; outs = 1; actions = 1 }) → length machines ≡ count → IsRing count plan → HasCounts counts plan machines
ring_fits counts plan machines count is long ring =
    record {
      ins_are = ones_of (λ a. (counts a).ins) machines count (λ x. ap (λ (n : Counts). n.ins) (is x)) long ∙ sym ring.ins;
      outs_are = ones_of (λ a. (counts a).outs) machines count (λ x. ap (λ (n : Counts). n.outs) (is x)) long ∙ sym ring.outs;
      actions_are = ones_of (λ a. (counts a).actions) machines count (λ x. ap (λ (n : Counts). n.actions) (is x)) long ∙ sym ring.actions;
    }

-- plans of two choices for machines of two choices
pub ring_plans : {A P : Type 0} (counts : A → Counts) (list : P → List ℕ) (machines : List A) (plans : List P) → ((x : A) → counts x ≡ record { ins = 1; outs = 1; actions = 1 }) → length plans ≡ length machines
    → All (λ p. list p ≡ 0 ∷ 1 ∷ []) plans → ArePlans (map counts machines) (map list plans)
ring_plans {A} {P} counts list machines plans is long alike = record {
  each = length-map plans list ∙ long ∙ sym (length-map machines counts);
  choices = λ i n low k d within.
      let here : i < length machines = subst (λ (m : ℕ). i < m) (length-map machines counts) low in
      let there : i < length plans = subst (λ (m : ℕ). i < m) (sym long) here in
      let m = some_of machines i here in
      let p = some_of plans i there in
      let has : get_or (map counts machines) i n ≡ record { ins = 1; outs = 1; actions = 1 } = get_or-map counts machines i m n here ∙ is (get_or machines i m) in
      let plan : get_or (map list plans) i [] ≡ 0 ∷ 1 ∷ [] = get_or-map list plans i p [] there ∙ alike i p there in
      subst (λ (c : Counts). IsChoice c (get_or (get_or (map list plans) i []) k d)) (sym has)
      (subst (λ (ps : List ℕ). get_or ps k d < 2) (sym plan) (below_two k d (subst (λ (ps : List ℕ). k < length ps) plan within)));
}
  where
    below_two : (k d : ℕ) → k < 2 → get_or (0 ∷ 1 ∷ []) k d < 2
    below_two zero d low = omega arith
    below_two (suc zero) d low = omega arith
    below_two (suc (suc k)) d low = absurd (omega (arith, low))

    some_of : {X : Type 0} (xs : List X) (i : ℕ) → i < length xs → X
    some_of [] i low = absurd (omega (arith, low))
    some_of (x ∷ xs) i low = x
