-- Entries whose numbers rise: the least of those that pass a test is the oldest of them.
use Rattle.std.proofs.Common.{◌≡◌, ℕ, zero, suc, ◌+◌, ◌<◌, ◌≤◌, List, [], ◌∷◌, refl, sym, ap, subst, ◌∙◌, Option, Some, None, arith}
use Rattle.std.specs.Prelude.{cond, true, false, Bool, nat_lt, nat_le, ◌==◌, filter, unwrap_or, max, ◌||◌}
use Rattle.std.specs.List.{list_any, AllByRecursion}
use Rattle.std.proofs.lemmas.Bool.{le-leb}
use Rattle.std.proofs.lemmas.Bool.Decides.{nat_tests}
use Rattle.sl_saves.specs.Calls.{Save, Call, Adopt, Credited, Credit, saves, number, with_credit, saved_credit, lower, is_empty, IsRising, least_save, lesser, number_or, greatest}

-- the last number of entries
abbrev pub top : List Save → ℕ
top [] = 0
top (s ∷ ss) = s.number

-- each number is the one before and what was adopted, which is at least 1
abbrev pub IsChain : List Save → Type 0
IsChain [] = Unit {0}
IsChain (s ∷ ss) = (1 ≤ s.by) × (s.number ≡ top ss + s.by) × IsChain ss

pub all-weaken : (P Q : Save → Type 0) (ss : List Save) → ((s : Save) → P s → Q s) → AllByRecursion P ss → AllByRecursion Q ss
all-weaken P Q [] f h = tt
all-weaken P Q (s ∷ ss) f h = (f s h.0, all-weaken P Q ss f h.1)

pub all-filter : (P : Save → Type 0) (p : Save → Bool) (ss : List Save) → AllByRecursion P ss → AllByRecursion P (filter p ss)
all-filter P p [] h = tt
all-filter P p (s ∷ ss) h = elim (p s) as (λ b. AllByRecursion P (cond b (s ∷ filter p ss) (filter p ss)))
    [ true ↦ (h.0, all-filter P p ss h.1) | false ↦ all-filter P p ss h.1 ]

-- no number lies above the last one
pub chain-below : (ss : List Save) → IsChain ss → AllByRecursion (λ s. s.number ≤ top ss) ss
chain-below [] h = tt
chain-below (s ∷ ss) h = let m : s.number ≡ top ss + s.by = h.1 in
    (omega arith, all-weaken (λ t. t.number ≤ top ss) (λ t. t.number ≤ s.number) ss (λ t p. omega (arith, p, m)) (chain-below ss h.2))

pub chain-older : (s : Save) (ss : List Save) → IsChain (s ∷ ss) → AllByRecursion (λ t. t.number < s.number) ss
chain-older s ss h = let m : s.number ≡ top ss + s.by = h.1 in let n : 1 ≤ s.by = h.0 in
    all-weaken (λ t. t.number ≤ top ss) (λ t. t.number < s.number) ss (λ t p. omega (arith, p, m, n)) (chain-below ss h.2)

lesser-le : (s : Save) (o : Option Save) → (lesser s o).number ≤ s.number
lesser-le s None = omega arith
lesser-le s (Some t) = grind (arith, nat_tests)

least-le : (n : ℕ) (ss : List Save) → AllByRecursion (λ s. s.number ≤ n) ss → number_or n (least_save ss) ≤ n
least-le n [] h = omega arith
least-le n (s ∷ ss) h = let m : s.number ≤ n = h.0 in omega (arith, m, lesser-le s (least_save ss))

lesser-older : (s : Save) (o : Option Save) → number_or s.number o ≤ s.number → lesser s o ≡ unwrap_or o s
lesser-older s None h = refl
lesser-older s (Some t) h = ap (λ b. cond b t s) (le-leb t.number s.number h)

pub least-older : (p : Save → Bool) (s : Save) (ss : List Save) → IsChain (s ∷ ss) → least_save (s ∷ filter p ss) ≡ Some (unwrap_or (least_save (filter p ss)) s)
least-older p s ss h = ap Some (lesser-older s (least_save (filter p ss)) (least-le s.number (filter p ss)
    (all-filter (λ t. t.number ≤ s.number) p ss (all-weaken (λ t. t.number < s.number) (λ t. t.number ≤ s.number) ss (λ t q. omega (arith, q)) (chain-older s ss h)))))

lt-max : (d x y : ℕ) → nat_lt d (max x y) ≡ (nat_lt d x || nat_lt d y)
lt-max d x y = grind (arith, nat_tests)

-- one of some numbers is above d where the greatest is
pub any-greatest : (d : ℕ) (xs : List ℕ) → nat_lt d (greatest xs) ≡ list_any (λ a. nat_lt d a) xs
any-greatest d [] = grind (arith, nat_tests)
any-greatest d (x ∷ xs) = lt-max d x (greatest xs) ∙ ap (λ b. nat_lt d x || b) (any-greatest d xs)

-- What calls save is a chain.

top-credit : (n : ℕ) (c : Credit) (ss : List Save) → top (with_credit n c ss) ≡ top ss
top-credit zero c ss = refl
top-credit (suc n) c [] = refl
top-credit (suc n) c (s ∷ ss) = elim (n == 0 || (nat_le c.age s.by || is_empty ss)) as
    (λ b. top (cond b (saved_credit true c s ∷ ss) (saved_credit false c s ∷ with_credit n (lower s.by c) ss)) ≡ s.number) [ true ↦ refl | false ↦ refl ]

pub top-number : (n : ℕ) (cs : List Call) → top (saves n cs) ≡ number cs
top-number n [] = refl
top-number n (Adopt by packets bytes ∷ cs) = refl
top-number n (Credited c ∷ cs) = top-credit n c (saves n cs) ∙ top-number n cs

chain-credit : (n : ℕ) (c : Credit) (ss : List Save) → IsChain ss → IsChain (with_credit n c ss)
chain-credit zero c ss h = h
chain-credit (suc n) c [] h = h
chain-credit (suc n) c (s ∷ ss) h = elim (n == 0 || (nat_le c.age s.by || is_empty ss)) as
    (λ b. IsChain (cond b (saved_credit true c s ∷ ss) (saved_credit false c s ∷ with_credit n (lower s.by c) ss)))
    [ true ↦ h | false ↦ (h.0, h.1 ∙ ap (λ m. m + s.by) (sym (top-credit n (lower s.by c) ss)), chain-credit n (lower s.by c) ss h.2) ]

pub chain-saves : (n : ℕ) (cs : List Call) → IsRising cs → IsChain (saves n cs)
chain-saves n [] h = tt
chain-saves n (Adopt by packets bytes ∷ cs) h = (h.0, ap (λ m. m + by) (sym (top-number n cs)), chain-saves n cs h.1)
chain-saves n (Credited c ∷ cs) h = chain-credit n c (saves n cs) (chain-saves n cs h)

-- no number of theirs lies above theirs
pub saves-below : (n : ℕ) (cs : List Call) → IsRising cs → AllByRecursion (λ t. t.number ≤ number cs) (saves n cs)
saves-below n cs h = subst (λ m. AllByRecursion (λ t. t.number ≤ m) (saves n cs)) (top-number n cs) (chain-below (saves n cs) (chain-saves n cs h))
