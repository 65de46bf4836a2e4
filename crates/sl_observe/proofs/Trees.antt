-- Trees of minima: the node 1 is the least of the numbers.
use Rattle.std.proofs.Common.{◌≡◌, ◌≢◌, ℕ, zero, suc, ◌+◌, ◌-◌, ◌*◌, ◌/◌, ◌%◌, ◌<◌, ◌≤◌, ◌⊎◌, inl, inr, List, [], ◌∷◌, length, refl, sym, ap, ◌∙◌, subst, drop, get_or, set, replicate, arith}
use Rattle.std.specs.Prelude.{min, Some, None}
use Rattle.std.specs.List.{fold}
use Rattle.std.proofs.lemmas.List.{get_or-drop, length-drop, drop-replicate, length-replicate, nil_from_length, get_or-set_other, get_or-set_same}
use Rattle.std.proofs.lemmas.Bool.{cases_lt, cases_eq}
use Rattle.sl_route.specs.Least.{least, least_in}
use Rattle.sl_observe.specs.Floors.{IsTree, IsLesserOfChildren}

-- Zeros.

abbrev zeros : ℕ → List ℕ
zeros n = replicate n 0

zero_at : (n i : ℕ) → get_or (zeros n) i 0 ≡ 0
zero_at zero i = refl
zero_at (suc n) zero = refl
zero_at (suc n) (suc i) = zero_at n i

pub zeros_are_tree : (n : ℕ) (tree : List ℕ) → tree ≡ zeros (n + n) → IsTree n tree
zeros_are_tree n tree e = record {
  size = ap length e ∙ length-replicate (n + n) 0;
  nodes = λ i l m. subst (λ t. IsLesserOfChildren t i) (sym e)
      (zero_at (n + n) i ∙ sym (ap (λ a. min a (get_or (zeros (n + n)) (2 * i + 1) 0)) (zero_at (n + n) (2 * i)) ∙ ap (λ b. min 0 b) (zero_at (n + n) (2 * i + 1))));
}

pub zeros_are_numbers : (n : ℕ) (tree : List ℕ) → tree ≡ zeros (n + n) → drop n tree ≡ zeros n
zeros_are_numbers n tree e = let h : n + n - n ≡ n = omega arith in ap (drop n) e ∙ drop-replicate n (n + n) 0 ∙ ap zeros h

-- The least of a list is a number of it that is above no other.

pub least_of_bound : (n m : ℕ) (xs : List ℕ) → m ≤ n → ((k : ℕ) → k < length xs → m ≤ get_or xs k 0) → m ≤ fold min n xs
least_of_bound n m [] l f = l
least_of_bound n m (x ∷ xs) l f = least_of_bound (min n x) m xs (let h : m ≤ x = f 0 (omega arith) in omega arith) (λ k h. f (suc k) (omega arith))

pub least_of_below : (n : ℕ) (xs : List ℕ) → fold min n xs ≤ n
least_of_below n [] = omega arith
least_of_below n (x ∷ xs) = let h = least_of_below (min n x) xs in omega (arith, h)

pub least_of_member : (n : ℕ) (xs : List ℕ) (k : ℕ) → k < length xs → fold min n xs ≤ get_or xs k 0
least_of_member n [] k h = absurd (omega arith)
least_of_member n (x ∷ xs) zero h = let b = least_of_below (min n x) xs in omega (arith, b)
least_of_member n (x ∷ xs) (suc k) h = least_of_member (min n x) xs k (omega arith)

least_some : (n : ℕ) (xs : List ℕ) → least_in (Some n) xs ≡ Some (fold min n xs)
least_some n [] = refl
least_some n (x ∷ xs) = least_some (min n x) xs

pub least_is : (xs : List ℕ) (m k : ℕ) → k < length xs → get_or xs k 0 ≡ m → ((j : ℕ) → j < length xs → m ≤ get_or xs j 0) → least xs ≡ Some m
least_is [] m k h e f = absurd (omega arith)
least_is (x ∷ xs) m k h e f =
    let low : m ≤ fold min x xs = least_of_bound x m xs (f 0 (omega arith)) (λ j l. f (suc j) (omega arith)) in
    let high : fold min x xs ≤ m = at_most k h e in
    let same : min x x ≡ x = omega arith in
    ap (λ n. least_in (Some n) xs) same ∙ least_some x xs ∙ ap Some (omega (arith, low, high))
  where
    at_most : (k : ℕ) → k < length (x ∷ xs) → get_or (x ∷ xs) k 0 ≡ m → fold min x xs ≤ m
    at_most zero h e = let b = least_of_below x xs in omega (arith, b, e)
    at_most (suc k) h e = let b = least_of_member x xs k (omega arith) in omega (arith, b, e)

-- Nodes.

halves : (j : ℕ) → (j ≡ 2 * (j / 2)) ⊎ (j ≡ 2 * (j / 2) + 1)
halves j = by_rest (j % 2) refl
  where
    by_rest : (r : ℕ) → j % 2 ≡ r → (j ≡ 2 * (j / 2)) ⊎ (j ≡ 2 * (j / 2) + 1)
    by_rest zero e = inl (omega arith)
    by_rest (suc zero) e = inr (omega arith)
    by_rest (suc (suc r)) e = absurd (omega arith)

parent_below : (n : ℕ) (tree : List ℕ) → IsTree n tree → (j : ℕ) → 2 ≤ j → j < n + n → get_or tree (j / 2) 0 ≤ get_or tree j 0
parent_below n tree t j m h =
    let lesser : get_or tree (j / 2) 0 ≡ min (get_or tree (2 * (j / 2)) 0) (get_or tree (2 * (j / 2) + 1) 0) = t.nodes (j / 2) (omega arith) (omega arith) in
    elim (halves j) [
      | inl e ↦ let same : get_or tree j 0 ≡ get_or tree (2 * (j / 2)) 0 = ap (λ k. get_or tree k 0) e in omega arith
      | inr e ↦ let same : get_or tree j 0 ≡ get_or tree (2 * (j / 2) + 1) 0 = ap (λ k. get_or tree k 0) e in omega arith
    ]

-- no node is below the first; d bounds the number of the node
first_below : (d n : ℕ) (tree : List ℕ) → IsTree n tree → (j : ℕ) → j ≤ d → 1 ≤ j → j < n + n → get_or tree 1 0 ≤ get_or tree j 0
first_below zero n tree t j l m h = absurd (omega arith)
first_below (suc d) n tree t j l m h =
    elim (cases_lt 1 j) [
      | inl g ↦
          let above : get_or tree 1 0 ≤ get_or tree (j / 2) 0 = first_below d n tree t (j / 2) (omega arith) (omega arith) (omega arith) in
          let below : get_or tree (j / 2) 0 ≤ get_or tree j 0 = parent_below n tree t j g h in
          omega arith
      | inr g ↦ let e : j ≡ 1 = omega arith in let same : get_or tree j 0 ≡ get_or tree 1 0 = ap (λ k. get_or tree k 0) e in omega arith
    ]

lesser_is_one : (a b : ℕ) → (min a b ≡ a) ⊎ (min a b ≡ b)
lesser_is_one a b = elim (cases_lt a b) [ inl g ↦ inl (omega arith) | inr g ↦ inr (omega arith) ]

-- each node is one of the numbers; d bounds the nodes after it
leaf_of : (d n : ℕ) (tree : List ℕ) → IsTree n tree → (i : ℕ) → n + n ≤ i + d → 1 ≤ i → i < n + n → (k : ℕ) × ((k < n) × (get_or tree (n + k) 0 ≡ get_or tree i 0))
leaf_of zero n tree t i l m h = absurd (omega arith)
leaf_of (suc d) n tree t i l m h =
    elim (cases_lt i n) [
      | inl g ↦ elim (lesser_is_one (get_or tree (2 * i) 0) (get_or tree (2 * i + 1) 0)) [
        | inl e ↦ let down = leaf_of d n tree t (2 * i) (omega arith) (omega arith) (omega arith) in (down.0, (down.1.0, down.1.1 ∙ sym (t.nodes i m g ∙ e)))
        | inr e ↦ let down = leaf_of d n tree t (2 * i + 1) (omega arith) (omega arith) (omega arith) in (down.0, (down.1.0, down.1.1 ∙ sym (t.nodes i m g ∙ e)))
      ]
      | inr g ↦ let e : n + (i - n) ≡ i = omega arith in (i - n, (omega arith, ap (λ k. get_or tree k 0) e))
    ]

pub root_is_least : (n : ℕ) (tree : List ℕ) → IsTree n tree → 1 ≤ n → least (drop n tree) ≡ Some (get_or tree 1 0)
root_is_least n tree t h =
    let size : length (drop n tree) ≡ n = let s : length (drop n tree) ≡ length tree - n = length-drop n tree in let e = t.size in omega arith in
    let leaf = leaf_of (n + n) n tree t 1 (omega arith) (omega arith) (omega arith) in
    least_is (drop n tree) (get_or tree 1 0) leaf.0 (let l = leaf.1.0 in omega arith) (get_or-drop n tree leaf.0 0 ∙ leaf.1.1)
    (λ j l. let same : get_or (drop n tree) j 0 ≡ get_or tree (n + j) 0 = get_or-drop n tree j 0 in
    let low : get_or tree 1 0 ≤ get_or tree (n + j) 0 = first_below (n + n) n tree t (n + j) (omega arith) (omega arith) (omega arith) in omega arith)

pub none_is_least : (n : ℕ) (tree : List ℕ) → IsTree n tree → n ≡ 0 → least (drop n tree) ≡ None
none_is_least n tree t e = let size = t.size in let s : length (drop n tree) ≡ length tree - n = length-drop n tree in ap least (nil_from_length (drop n tree) (omega arith))

-- A number written at a node j.

pub written_off : (tree : List ℕ) (j x i : ℕ) → 1 ≤ i → i ≢ j → i ≢ j / 2 → IsLesserOfChildren tree i → IsLesserOfChildren (set tree j x) i
written_off tree j x i l ne off e =
    let left : 2 * i ≢ j = λ h. off (omega arith) in
    let right : 2 * i + 1 ≢ j = λ h. off (omega arith) in
    let here : get_or (set tree j x) i 0 ≡ get_or tree i 0 = get_or-set_other tree j i x 0 ne in
    let first : get_or (set tree j x) (2 * i) 0 ≡ get_or tree (2 * i) 0 = get_or-set_other tree j (2 * i) x 0 left in
    let second : get_or (set tree j x) (2 * i + 1) 0 ≡ get_or tree (2 * i + 1) 0 = get_or-set_other tree j (2 * i + 1) x 0 right in
    here ∙ e ∙ sym (ap (λ a. min a (get_or (set tree j x) (2 * i + 1) 0)) first ∙ ap (min (get_or tree (2 * i) 0)) second)

pub written_here : (tree : List ℕ) (j x : ℕ) → 1 ≤ j → j < length tree → x ≡ min (get_or tree (2 * j) 0) (get_or tree (2 * j + 1) 0) → IsLesserOfChildren (set tree j x) j
written_here tree j x l h e =
    let left : 2 * j ≢ j = λ h. omega arith in
    let right : 2 * j + 1 ≢ j = λ h. omega arith in
    let here : get_or (set tree j x) j 0 ≡ x = get_or-set_same tree j x 0 h in
    let first : get_or (set tree j x) (2 * j) 0 ≡ get_or tree (2 * j) 0 = get_or-set_other tree j (2 * j) x 0 left in
    let second : get_or (set tree j x) (2 * j + 1) 0 ≡ get_or tree (2 * j + 1) 0 = get_or-set_other tree j (2 * j + 1) x 0 right in
    here ∙ e ∙ sym (ap (λ a. min a (get_or (set tree j x) (2 * j + 1) 0)) first ∙ ap (min (get_or tree (2 * j) 0)) second)

-- the nodes but the one above j are right
abbrev pub RightBut : ℕ → ℕ → List ℕ → Type 0
RightBut n j tree = (i : ℕ) → 1 ≤ i → i < n → i ≢ j / 2 → IsLesserOfChildren tree i

pub right_but_above : (n j x : ℕ) (tree : List ℕ) → IsTree n tree → n ≤ j → RightBut n j (set tree j x)
right_but_above n j x tree t h i l m off = written_off tree j x i l (λ e. omega arith) off (t.nodes i l m)

-- the node above j is written anew
pub right_a_step_on : (n j x : ℕ) (tree : List ℕ) → length tree ≡ n + n → 2 ≤ j → j < n + n → RightBut n j tree → x ≡ min (get_or tree (2 * (j / 2)) 0) (get_or tree (2 * (j / 2) + 1) 0)
    → RightBut n (j / 2) (set tree (j / 2) x)
right_a_step_on n j x tree size m h right e i l below off =
    elim (cases_eq i (j / 2)) [
      | inl same ↦ subst (λ k. IsLesserOfChildren (set tree (j / 2) x) k) (sym same) (written_here tree (j / 2) x (omega arith) (omega arith) e)
      | inr other ↦ written_off tree (j / 2) x i l other off (right i l below other)
    ]
