-- Fewer than two words, and more than three, are no two numbers with a word -- among them.
use Rattle.std.proofs.Common.{◌≡◌, ◌<◌, ◌≤◌, ℕ, Bool, true, false, List, [], ◌∷◌, None, length, refl, arith}
use Rattle.std.specs.Prelude.{if◌then◌else◌}
use Rattle.std.specs.Str.{bytes_eq}
use Rattle.sl_words.specs.Words.{dashes, without_dashes, two_numbers, poll_words}

pub too_few : (ws : List (List ℕ)) → length ws < 2 → None ≡ poll_words ws
too_few [] h = refl
too_few (a ∷ []) h = by_bool (bytes_eq a dashes)
  where
    by_bool : (x : Bool) → None ≡ two_numbers (if x then [] else a ∷ [])
    by_bool true = refl
    by_bool false = refl
too_few (a ∷ b ∷ ws) h = absurd (omega (arith, h))

pub too_many : (ws : List (List ℕ)) → 4 ≤ length ws → None ≡ poll_words ws
too_many [] h = absurd (omega (arith, h))
too_many (a ∷ []) h = absurd (omega (arith, h))
too_many (a ∷ b ∷ []) h = absurd (omega (arith, h))
too_many (a ∷ b ∷ c ∷ []) h = absurd (omega (arith, h))
too_many (a ∷ b ∷ c ∷ d ∷ ws) h = by_bools (bytes_eq a dashes) (bytes_eq b dashes) (bytes_eq c dashes)
  where
    by_bools : (x y z : Bool) → None ≡ two_numbers (if x then b ∷ c ∷ d ∷ ws else a ∷ (if y then c ∷ d ∷ ws else b ∷ (if z then d ∷ ws else c ∷ without_dashes (d ∷ ws))))
    by_bools true y z = refl
    by_bools false true z = refl
    by_bools false false true = refl
    by_bools false false false = refl
