-- A book of logs that is in the order of its numbers, and where these are the same of its actors, ascends.
use Rattle.std.proofs.Common.{◌≡◌, ℕ, zero, suc, ◌+◌, ◌-◌, ◌<◌, ◌≤◌, ◌==◌, Bool, true, false, List, [], ◌∷◌, length, get_or, sum_by, inl, inr, sym, refl, ap, ap₂, ◌∙◌, subst, arith, eq-eqb, eqb-true, le_refl, le-ltb}
use Rattle.std.specs.Prelude.{◌&&◌, nat_lt, cond}
use Rattle.std.specs.Ordering.{nat_cmp, is_lt}
use Rattle.std.specs.List.Sorted.{IsPermutation, IsNonDecreasingBy, IsSortedByKey}
use Rattle.std.specs.declared.cmp.Ordering.TheVariants.{Equal, Greater}
use Rattle.std.proofs.lemmas.Bool.{and_parts, cases_lt}
use Rattle.std.proofs.lemmas.List.Sums.{sum_by-cons}
use Rattle.std.proofs.lemmas.List.Sorted.{sum_by-IsPermutation}
use Rattle.sl_machine.specs.declared.wiring.Entry.{Entry}
use Rattle.sl_merge.specs.Merging.{AreLogs, IsAscending, IsBefore}

not_less : (a b : ℕ) → b ≤ a → is_lt (nat_cmp a b) ≡ false
not_less a b le =
    let test : nat_lt a b ≡ false = le-ltb a b le in
    rw test (elim (a == b) as (λ (t : Bool). is_lt (cond t Equal Greater) ≡ false) [ true ↦ refl | false ↦ refl ])

-- in order by place, as a sort tells it
pub by_key : (n : Entry → ℕ) (es : List Entry) → IsNonDecreasingBy n es → IsSortedByKey n nat_cmp es
by_key n es h = λ k d low lt. not_less (n (get_or es (k + 1) d)) (n (get_or es k d)) (h k (k + 1) d (omega arith) lt)

abbrev one_if : Bool → ℕ
one_if true = 1
one_if false = 0

-- 1 for an entry of this actor with this number
abbrev has : ℕ → ℕ → Entry → ℕ
has a n e = one_if ((e.actor == a) && (e.number == n))

it_has : (a n : ℕ) (e : Entry) → e.actor ≡ a → e.number ≡ n → has a n e ≡ 1
it_has a n e actor number = rw (eq-eqb e.actor a actor, eq-eqb e.number n number) refl

-- where none has this number, none is counted
none_has : (a n : ℕ) (es : List Entry) → ((j : ℕ) (d : Entry) → j < length es → a ≡ (get_or es j d).actor → n < (get_or es j d).number) → sum_by (has a n) es ≡ 0
none_has a n [] h = refl
none_has a n (e ∷ es) h = sum_by-cons (has a n) e es ∙ ap₂ (λ x y. x + y) (first ((e.actor == a) && (e.number == n)) refl) (none_has a n es (λ j d low. h (suc j) d (omega arith)))
  where
    first : (t : Bool) → ((e.actor == a) && (e.number == n)) ≡ t → one_if t ≡ 0
    first false is = refl
    first true is =
        let both = and_parts (e.actor == a) (e.number == n) is in
        let later : n < e.number = h 0 e (omega arith) (sym (eqb-true e.actor a both.0)) in
        let same : e.number ≡ n = eqb-true e.number n both.1 in
        absurd (omega arith)

-- logs have each number of an actor once
once : (a n : ℕ) (es : List Entry) → AreLogs es → sum_by (has a n) es ≤ 1
once a n [] h = omega arith
once a n (e ∷ es) h = subst (λ (k : ℕ). k ≤ 1) (sym (sum_by-cons (has a n) e es)) (first ((e.actor == a) && (e.number == n)) refl (once a n es (λ i j d lt low. h (suc i) (suc j) d (omega arith) (omega arith))))
  where
    first : (t : Bool) → ((e.actor == a) && (e.number == n)) ≡ t → sum_by (has a n) es ≤ 1 → one_if t + sum_by (has a n) es ≤ 1
    first false is rest = omega (arith, rest)
    first true is rest =
        let both = and_parts (e.actor == a) (e.number == n) is in
        let actor : e.actor ≡ a = eqb-true e.actor a both.0 in
        let number : e.number ≡ n = eqb-true e.number n both.1 in
        let none : sum_by (has a n) es ≡ 0 = none_has a n es (λ j d low same. subst (λ (k : ℕ). k < (get_or es j d).number) number (h 0 (suc j) d (omega arith) (omega arith) (actor ∙ same))) in
        omega (arith, none)

-- an entry that is counted, and two
one_counts : (a n : ℕ) (es : List Entry) (j : ℕ) (d : Entry) → j < length es → has a n (get_or es j d) ≡ 1 → 1 ≤ sum_by (has a n) es
one_counts a n [] j d low is = absurd (omega arith)
one_counts a n (e ∷ es) zero d low is = omega (arith, sum_by-cons (has a n) e es, is)
one_counts a n (e ∷ es) (suc j) d low is = omega (arith, sum_by-cons (has a n) e es, one_counts a n es j d (omega arith) is)

two_count : (a n : ℕ) (es : List Entry) (i j : ℕ) (d : Entry) → i < j → j < length es → has a n (get_or es i d) ≡ 1 → has a n (get_or es j d) ≡ 1 → 2 ≤ sum_by (has a n) es
two_count a n [] i j d lt low is also = absurd (omega arith)
two_count a n (e ∷ es) i zero d lt low is also = absurd (omega arith)
two_count a n (e ∷ es) zero (suc j) d lt low is also = omega (arith, sum_by-cons (has a n) e es, is, one_counts a n es j d (omega arith) also)
two_count a n (e ∷ es) (suc i) (suc j) d lt low is also = omega (arith, sum_by-cons (has a n) e es, two_count a n es i j d (omega arith) (omega arith) is also)

module _ (entries book : List Entry) (logs : AreLogs entries) (same : IsPermutation entries book) (rising : IsNonDecreasingBy (λ e. e.number) book) where
  -- in the order of numbers each log is in its order
  pub still_logs : AreLogs book
  still_logs i j d lt low actor =
      let e = get_or book i d in
      let f = get_or book j d in
      elim (cases_lt e.number f.number) [
        | inl less ↦ less
        | inr high ↦
            let up : e.number ≤ f.number = rising i j d (omega arith) low in
            let number : f.number ≡ e.number = omega arith in
            let two : 2 ≤ sum_by (has e.actor e.number) book = two_count e.actor e.number book i j d lt low (it_has e.actor e.number e refl refl) (it_has e.actor e.number f (sym actor) number) in
            absurd (omega (arith, two, once e.actor e.number entries logs, sum_by-IsPermutation (has e.actor e.number) entries book same))
      ]

  module _ (ties : (k : ℕ) (d : Entry) → k + 1 < length book → (get_or book k d).number ≡ (get_or book (k + 1) d).number → (get_or book k d).actor ≤ (get_or book (k + 1) d).actor) where
    chain : (i n : ℕ) (d : Entry) → i + n < length book → (get_or book i d).number ≡ (get_or book (i + n) d).number → (get_or book i d).actor ≤ (get_or book (i + n) d).actor
    chain i zero d low number = subst (λ (k : ℕ). (get_or book i d).actor ≤ (get_or book k d).actor) (omega arith) (le_refl _)
    chain i (suc n) d low number =
        let place : i + suc n ≡ (i + n) + 1 = omega arith in
        let last : (get_or book i d).number ≡ (get_or book (i + n + 1) d).number = number ∙ ap (λ (k : ℕ). (get_or book k d).number) place in
        let up : (get_or book i d).number ≤ (get_or book (i + n) d).number = rising i (i + n) d (omega arith) (omega arith) in
        let more : (get_or book (i + n) d).number ≤ (get_or book (i + n + 1) d).number = rising (i + n) (i + n + 1) d (omega arith) (omega arith) in
        let before : (get_or book i d).actor ≤ (get_or book (i + n) d).actor = chain i n d (omega arith) (omega arith) in
        let next : (get_or book (i + n) d).actor ≤ (get_or book (i + n + 1) d).actor = ties (i + n) d (omega arith) (omega arith) in
        subst (λ (k : ℕ). (get_or book i d).actor ≤ (get_or book k d).actor) (sym place) (omega arith)

    pub ascends : IsAscending book
    ascends i j d lt low =
        let e = get_or book i d in
        let f = get_or book j d in
        elim (cases_lt e.number f.number) as (λ x. IsBefore e f) [
          | inl less ↦ inl less
          | inr high ↦
              let up : e.number ≤ f.number = rising i j d (omega arith) low in
              let number : e.number ≡ f.number = omega arith in
              let place : i + (j - i) ≡ j = omega arith in
              let by_place : (get_or book i d).number ≡ (get_or book (i + (j - i)) d).number = number ∙ ap (λ (k : ℕ). (get_or book k d).number) (sym place) in
              let actor : e.actor ≤ f.actor = subst (λ (k : ℕ). e.actor ≤ (get_or book k d).actor) place (chain i (j - i) d (omega arith) by_place) in
              elim (cases_lt e.actor f.actor) as (λ x. IsBefore e f) [
                | inl less ↦ inr (number, less)
                | inr past ↦ let is : e.actor ≡ f.actor = omega arith in absurd (omega (arith, still_logs i j d lt low is, number))
              ]
        ]
