-- Plain numbers, against what std reads and writes.
use Rattle.std.proofs.Common.{◌≡◌, ℕ, zero, suc, ◌≤◌, ◌<◌, ◌^◌, Bool, true, false, ◌==◌, not, List, [], ◌∷◌, length, get_or, Some, None, Result, Err, nat_le, refl, sym, ap, subst, arith, rules}
use Rattle.std.proofs.lemmas.Bool.{and_parts}
use Rattle.std.proofs.lemmas.Bool.Decides.{nat_tests}
use Rattle.std.proofs.lemmas.Fmt.{decimal_nonempty, first_decimal, decimal_digit, digits_decimal, digits_value-decimal, decimal-digits_value}
use Rattle.std.proofs.lemmas.Str.Parse.{IsNumeralModel, numerals_by_value, parse_digits}
use Rattle.std.specs.Prelude.{decimal}
use Rattle.std.specs.Str.Parse.{ParsesUnsigned, digits_value}
use Rattle.sl_parts.specs.Number.{all_digits, is_plain, plain_number, IsPlainNumber}

own : IsNumeralModel (λ ds. all_digits ds ≡ true) (digits_value 10)
own = numerals_by_value _ (search rules)

plain_digits : (bs : List ℕ) → is_plain bs ≡ true → (all_digits bs ≡ true) × (0 < length bs) × (get_or bs 0 0 ≡ 48 → length bs ≡ 1)
plain_digits [] p = absurd (cc)
plain_digits (c ∷ []) p = (p, omega arith, λ h. refl)
plain_digits (c ∷ d ∷ cs) p = let (nonzero, digits) = and_parts (not (c == 48)) (all_digits (c ∷ d ∷ cs)) p in (digits, omega arith, λ h. absurd (grind (arith, nat_tests)))

-- a plain number that std refuses is above any bound
pub plain_refused : {E : Type 0} (bs : List ℕ) (most : ℕ) (r : Result ℕ E) (e : E) → r ≡ Err e → ParsesUnsigned 64 10 bs r → is_plain bs ≡ true → most < 2 ^ 64 → None ≡ plain_number most bs
plain_refused {E} bs most r e is h p small =
    let digits = plain_digits bs p in
    let told = parse_digits own 64 bs r h digits.0 in
    let big = rw is at told in
    go big digits.1 (nat_le (digits_value 10 bs) most) refl
  where
    go : (((0 < length bs) × (digits_value 10 bs < 2 ^ 64)) → ⊥) → 0 < length bs → (t : Bool) → nat_le (digits_value 10 bs) most ≡ t → None ≡ plain_number most bs
    go big some true t = let low : digits_value 10 bs < 2 ^ 64 = grind (arith, nat_tests) in absurd (big (some, low))
    go big some false t = rw (p, t) refl

-- a text that begins with no zero is plain where it has digits alone
plain_from_digits : (bs : List ℕ) → all_digits bs ≡ true → 0 < length bs → (get_or bs 0 0 ≡ 48 → length bs ≡ 1) → is_plain bs ≡ true
plain_from_digits [] d some first = absurd (omega arith)
plain_from_digits (c ∷ []) d some first = d
plain_from_digits (c ∷ e ∷ cs) d some first = go (c == 48) refl
  where
    go : (t : Bool) → (c == 48) ≡ t → is_plain (c ∷ e ∷ cs) ≡ true
    go true t = let at : c ≡ 48 = grind (arith, nat_tests) in absurd (let h = first at in omega (arith, h))
    go false t = rw (t, d) refl

decimal_first : (n : ℕ) → n < 2 ^ 64 → get_or (decimal n) 0 0 ≡ 48 → length (decimal n) ≡ 1
decimal_first zero small h = ap length (decimal_digit 0 (omega arith))
decimal_first (suc n) small h = let low = first_decimal (suc n) (omega arith) small in absurd (omega (arith, low, h))

pub plain_decimal : (n : ℕ) → n < 2 ^ 64 → is_plain (decimal n) ≡ true
plain_decimal n small = plain_from_digits (decimal n) (digits_decimal own n small) (decimal_nonempty n small) (decimal_first n small)

plain_read : (most n : ℕ) → most < 2 ^ 64 → n ≤ most → plain_number most (decimal n) ≡ Some n
plain_read most n small h =
    let low : n < 2 ^ 64 = omega arith in
    let le : nat_le n most ≡ true = grind (arith, nat_tests) in
    rw (plain_decimal n low, digits_value-decimal own n low, le) refl

written : (most : ℕ) (text : List ℕ) (n : ℕ) → most < 2 ^ 64 → plain_number most text ≡ Some n → (text ≡ decimal n) × (n ≤ most)
written most text n small h = go (is_plain text) (nat_le (digits_value 10 text) most) refl refl
  where
    go : (p q : Bool) → is_plain text ≡ p → nat_le (digits_value 10 text) most ≡ q → (text ≡ decimal n) × (n ≤ most)
    go true true p q =
        let e : Some (digits_value 10 text) ≡ Some n = rw (p, q) at h in
        let v : digits_value 10 text ≡ n = cc in
        let le : digits_value 10 text ≤ most = grind (arith, nat_tests) in
        let d = plain_digits text p in
        let low : digits_value 10 text < 2 ^ 64 = omega (arith, le, small) in
        let back = decimal-digits_value own text d.0 d.1 d.2 low in
        (subst (λ m. text ≡ decimal m) v (sym back), omega (arith, v, le))
    go true false p q = let e : None ≡ Some n = rw (p, q) at h in absurd (cc)
    go false q p r = let e : None ≡ Some n = rw p at h in absurd (cc)

pub is_plain_number : (most : ℕ) → most < 2 ^ 64 → IsPlainNumber most
is_plain_number most small = record { read = λ n h. plain_read most n small h; written = λ text n h. (written most text n small h).0; bound = λ text n h. (written most text n small h).1 }
