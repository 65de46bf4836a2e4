-- Trusted text, but for IsPlainNumber.
-- Plain decimal numbers: digits with no sign and no leading zero.
use Rattle.std.specs.Prelude.{◌≡◌, ℕ, ◌≤◌, Bool, true, false, not, ◌&&◌, ◌==◌, nat_le, if◌then◌else◌, List, [], ◌∷◌, Option, Some, None, decimal}
use Rattle.std.specs.Char.{is_ascii_digit}
use Rattle.std.specs.Str.Parse.{digits_value}

abbrev pub all_digits : List ℕ → Bool
all_digits [] = true
all_digits (c ∷ cs) = is_ascii_digit c && all_digits cs

-- a digit or more, and no zero before another digit
abbrev pub is_plain : List ℕ → Bool
is_plain [] = false
is_plain (c ∷ []) = all_digits (c ∷ [])
is_plain (c ∷ d ∷ cs) = not (c == 48) && all_digits (c ∷ d ∷ cs)

-- the number that a plain text writes, if it is at most `most`
abbrev pub plain_number : ℕ → List ℕ → Option ℕ
plain_number most text = if is_plain text && nat_le (digits_value 10 text) most then Some (digits_value 10 text) else None

-- a plain number is read from its decimal text, and from no other
pub record IsPlainNumber (most : ℕ) : Type 0 where
  pub read : (n : ℕ) → n ≤ most → plain_number most (decimal n) ≡ Some n
  pub written : (text : List ℕ) (n : ℕ) → plain_number most text ≡ Some n → text ≡ decimal n
  pub bound : (text : List ℕ) (n : ℕ) → plain_number most text ≡ Some n → n ≤ most
