-- Places of a ring.
use Rattle.std.proofs.Common.{◌≡◌, ℕ, zero, suc, ◌+◌, ◌-◌, ◌*◌, ◌/◌, ◌%◌, ◌<◌, ◌≤◌, ◌∙◌, sym, ap, arith, inl, inr}
use Rattle.std.specs.Prelude.{cond, ◌⊎◌}
use Rattle.std.proofs.lemmas.Bool.{lt-ltb, le-ltb, le-leb, lt-leb, cases_lt}
use Rattle.std.proofs.lemmas.Nat.{mod-mul-add, mod_below, div-add-mod'}
use Rattle.std.proofs.Math.Nat.{suc-mul, mod-add-mod, mod-eq_of_lt}
use Rattle.sl_saves.specs.Views.{place_below}
use Rattle.sl_saves.specs.Keeping.{place_above}

pub below-le : (size at d : ℕ) → d ≤ at → place_below size at d ≡ at - d
below-le size at d p = ap (λ b. cond b (at - d) (at + size - d)) (le-leb d at p)

pub below-gt : (size at d : ℕ) → at < d → place_below size at d ≡ at + size - d
below-gt size at d p = ap (λ b. cond b (at - d) (at + size - d)) (lt-leb d at p)

pub below-none : (size at : ℕ) → place_below size at 0 ≡ at
below-none size at = below-le size at 0 (omega arith) ∙ (omega arith)

pub below-inside : (size at d : ℕ) → at < size → d < size → place_below size at d < size
below-inside size at d h l = by_cases (cases_lt at d)
  where
    by_cases : ((at < d) ⊎ (d ≤ at)) → place_below size at d < size
    by_cases (inl q) = let b = below-gt size at d q in omega (arith, b, q, l)
    by_cases (inr q) = let b = below-le size at d q in omega (arith, b, q, h)

-- to go down twice is to go down by the sum
pub below-twice : (size at d e : ℕ) → at < size → d + e < size → place_below size (place_below size at d) e ≡ place_below size at (d + e)
below-twice size at d e h l = by_cases (cases_lt at d) (cases_lt at (d + e))
  where
    by_cases : ((at < d) ⊎ (d ≤ at)) → ((at < d + e) ⊎ (d + e ≤ at)) → place_below size (place_below size at d) e ≡ place_below size at (d + e)
    by_cases (inl p) (inl q) = let a = below-gt size at d p in let b = below-gt size at (d + e) q in let c = below-le size (place_below size at d) e (omega (arith, a, p, l)) in omega (arith, a, b, c, p, q, l)
    by_cases (inl p) (inr q) = absurd (omega (arith, p, q))
    by_cases (inr p) (inl q) = let a = below-le size at d p in let b = below-gt size at (d + e) q in let c = below-gt size (place_below size at d) e (omega (arith, a, p, q)) in omega (arith, a, b, c, p, q, l)
    by_cases (inr p) (inr q) = let a = below-le size at d p in let b = below-le size at (d + e) q in let c = below-le size (place_below size at d) e (omega (arith, a, p, q)) in omega (arith, a, b, c, p, q)

-- the slot of a number less than the size below another
pub below-mod : (size id j : ℕ) → j ≤ id → id < j + size → place_below size (id % size) (id - j) ≡ j % size
below-mod size id j h l = by_cases (cases_lt (id % size) (id - j)) (id / size) (div-add-mod' id size)
  where
    by_cases : ((id % size < id - j) ⊎ (id - j ≤ id % size)) → (q : ℕ) → q * size + id % size ≡ id → place_below size (id % size) (id - j) ≡ j % size
    by_cases (inr p) q e = let r : j ≡ q * size + (id % size - (id - j)) = omega (arith, p, e, h) in
        let b : id % size - (id - j) < size = omega (arith, mod_below id size (omega (arith, h, l)), p) in
        below-le size (id % size) (id - j) p ∙ sym (mod-mul-add q size (id % size - (id - j)) b) ∙ ap (λ n. n % size) (sym r)
    by_cases (inl p) zero e = absurd (omega (arith, p, e))
    by_cases (inl p) (suc q) e = let m : suc q * size ≡ q * size + size = suc-mul q size in
        let r : j ≡ q * size + (id % size + size - (id - j)) = omega (arith, p, e, h, l, m) in
        let b : id % size + size - (id - j) < size = omega (arith, p, h, l) in
        below-gt size (id % size) (id - j) p ∙ sym (mod-mul-add q size (id % size + size - (id - j)) b) ∙ ap (λ n. n % size) (sym r)

-- two numbers less than the size apart have two slots
pub mod-other : (size i j : ℕ) → j < i → i < j + size → i % size ≡ j % size → ⊥
mod-other size i j h l e = by_cases (cases_lt (i % size) (i - j)) (below-mod size i j (omega (arith, h)) l)
  where
    by_cases : ((i % size < i - j) ⊎ (i - j ≤ i % size)) → place_below size (i % size) (i - j) ≡ j % size → ⊥
    by_cases (inl p) b = let m = below-gt size (i % size) (i - j) p in omega (arith, m, b, e, h, l)
    by_cases (inr p) b = let m = below-le size (i % size) (i - j) p in omega (arith, m, b, e, h, p)

-- the slot of a number at most the size above another
pub above-mod : (size id by : ℕ) → 1 ≤ size → by ≤ size → place_above size (id % size) by ≡ (id + by) % size
above-mod size id by one h = by_cases (cases_lt (id % size + by) size) ∙ mod-add-mod id size by
  where
    by_cases : ((id % size + by < size) ⊎ (size ≤ id % size + by)) → place_above size (id % size) by ≡ (id % size + by) % size
    by_cases (inl p) = ap (λ b. cond b (id % size + by) (id % size + by - size)) (lt-ltb (id % size + by) size p) ∙ sym (mod-eq_of_lt p)
    by_cases (inr p) = let b : id % size + by - size < size = omega (arith, mod_below id size one, h, p) in
        let s : 1 * size + (id % size + by - size) ≡ id % size + by = omega (arith, p) in
        ap (λ b. cond b (id % size + by) (id % size + by - size)) (le-ltb (id % size + by) size p)
        ∙ sym (mod-mul-add 1 size (id % size + by - size) b) ∙ ap (λ n. n % size) s
