-- The spread of numbers from two sums, and how large these are.
use Rattle.std.proofs.Common.{◌≡◌, ℕ, suc, ◌+◌, ◌-◌, ◌*◌, ◌<◌, ◌≤◌, ◌⊎◌, min, max, List, [], ◌∷◌, length, get_or, take, drop, refl, sym, ap, subst, ◌∙◌, arith, inl, inr}
use Rattle.std.specs.Prelude.{sum, sum_by}
use Rattle.std.proofs.lemmas.Bool.{cases_lt}
use Rattle.std.proofs.lemmas.List.{drop_more, take_all}
use Rattle.std.proofs.lemmas.List.Sums.{sum_by-cons}
use Rattle.sl_balance.specs.Spread.{square, difference, spread, spread_from_sums, lowest_of, highest_of}

apart : (x d : ℕ) → d * d + (x * (x + d) + x * (x + d)) ≡ x * x + (x + d) * (x + d)
apart x d = omega arith

apart-other : (y d : ℕ) → d * d + ((y + d) * y + (y + d) * y) ≡ (y + d) * (y + d) + y * y
apart-other y d = omega arith

-- the square of a difference, and twice the product, are the two squares
squares : (x y : ℕ) → square (difference x y) + (x * y + x * y) ≡ square x + square y
squares x y = by_order (cases_lt x y)
  where
    above : (d : ℕ) → y ≡ x + d → square (difference x y) + (x * y + x * y) ≡ square x + square y
    above d e = let g : difference x y ≡ d = omega arith in
        ap (λ k. square k + (x * y + x * y)) g ∙ subst (λ z. d * d + (x * z + x * z) ≡ x * x + z * z) (sym e) (apart x d)

    below : (d : ℕ) → x ≡ y + d → square (difference x y) + (x * y + x * y) ≡ square x + square y
    below d e = let g : difference x y ≡ d = omega arith in
        ap (λ k. square k + (x * y + x * y)) g ∙ subst (λ z. d * d + (z * y + z * y) ≡ z * z + y * y) (sym e) (apart-other y d)

    by_order : (x < y) ⊎ (y ≤ x) → square (difference x y) + (x * y + x * y) ≡ square x + square y
    by_order (inl l) = above (y - x) (omega (arith, l))
    by_order (inr l) = below (x - y) (omega (arith, l))

one_more : (a r x y s n q : ℕ) → a + (x * y + x * y) ≡ x * x + y * y → r + (x * s + x * s) ≡ n * (x * x) + q
    → (a + r) + (x * (y + s) + x * (y + s)) ≡ suc n * (x * x) + (y * y + q)
one_more a r x y s n q h k = omega arith

-- one number against the others
against : (x : ℕ) (ys : List ℕ) → sum_by (λ y. square (difference x y)) ys + (x * sum ys + x * sum ys) ≡ length ys * square x + sum_by square ys
against x [] = omega arith
against x (y ∷ ys) = rw (sum_by-cons (λ z. square (difference x z)) y ys, sum_by-cons (λ z. z) y ys, sum_by-cons square y ys)
    (one_more (square (difference x y)) (sum_by (λ z. square (difference x z)) ys) x y (sum ys) (length ys) (sum_by square ys) (squares x y) (against x ys))

all_more : (w p x s n q : ℕ) → w + (x * s + x * s) ≡ n * (x * x) + q → p + s * s ≡ n * q → (w + p) + (x + s) * (x + s) ≡ suc n * (x * x + q)
all_more w p x s n q h k = omega arith

pub spread-sums : (xs : List ℕ) → spread xs + square (sum xs) ≡ length xs * sum_by square xs
spread-sums [] = omega arith
spread-sums (x ∷ xs) = rw (sum_by-cons (λ z. z) x xs, sum_by-cons square x xs)
    (all_more (sum_by (λ y. square (difference x y)) xs) (spread xs) x (sum xs) (length xs) (sum_by square xs) (against x xs) (spread-sums xs))

less : (p s n : ℕ) → p + s ≡ n → n - s ≡ p
less p s n h = omega arith

pub from_sums : (xs : List ℕ) → spread_from_sums xs ≡ spread xs
from_sums xs = less (spread xs) (square (sum xs)) (length xs * sum_by square xs) (spread-sums xs)

-- Loops.

pub lowest_more : (n : ℕ) (xs : List ℕ) (i : ℕ) → i < length xs → lowest_of n (drop i xs) ≡ lowest_of (min n (get_or xs i 0)) (drop (i + 1) xs)
lowest_more n xs i h = rw (drop_more xs i 0 h) refl

pub highest_more : (n : ℕ) (xs : List ℕ) (i : ℕ) → i < length xs → highest_of n (drop i xs) ≡ highest_of (max n (get_or xs i 0)) (drop (i + 1) xs)
highest_more n xs i h = rw (drop_more xs i 0 h) refl

module _ (xs : List ℕ) (i s q : ℕ) (end : length xs ≤ i) (sum_is : s ≡ sum (take i xs)) (squares_is : q ≡ sum_by square (take i xs)) where
  sums : spread xs + s * s ≡ length xs * q
  sums = let a : s ≡ sum xs = sum_is ∙ ap sum (take_all i xs end) in
      let b : q ≡ sum_by square xs = squares_is ∙ ap (sum_by square) (take_all i xs end) in
      ap (λ n. spread xs + n * n) a ∙ spread-sums xs ∙ ap (λ n. length xs * n) (sym b)

  pub square-fits : s * s ≤ length xs * q
  square-fits = omega (arith, sums)

  pub spread-is : length xs * q - s * s ≡ spread xs
  spread-is = less (spread xs) (s * s) (length xs * q) sums
