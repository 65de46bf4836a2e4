-- Sets of numbers as words of bits.
use Rattle.std.proofs.Common.{◌-◌, ◌^◌, ◌≡◌, ◌≢◌, ◌∙◌, ℕ, ◌+◌, ◌*◌, ◌/◌, ◌%◌, ◌<◌, ◌≤◌, List, length, get_or, set, ap, sym, arith, inl, inr, Bool, true, false, nat_lt, refl}
use Rattle.std.specs.Int.{bit_at, trailing_zeros, w64}
use Rattle.std.proofs.lemmas.Nat.Bits.{bit_at_above, bit_at-zero, bit_at-trailing_zeros}
use Rattle.std.proofs.lemmas.Nat.{shr-shr, shr_le}
use Rattle.std.proofs.lemmas.Bool.{cases_eq}
use Rattle.std.proofs.lemmas.Bool.Decides.{nat_tests}
use Rattle.std.proofs.lemmas.List.{get_or-set_same, get_or-set_other, get_or_read}
use Rattle.sl_world.specs.Marks.{mark_at}

-- a word is written
pub word-set_same : (words : List ℕ) (k v : ℕ) → k < 64 * length words → mark_at (set words (k / 64) v) k ≡ bit_at v (k % 64)
word-set_same words k v low = ap (λ (w : ℕ). bit_at w (k % 64)) (get_or-set_same words (k / 64) v 0 (omega arith))

pub word-set_other : (words : List ℕ) (k v j : ℕ) → k < 64 * length words → j ≢ k → ((i : ℕ) → i < 64 → i ≢ k % 64 → bit_at v i ≡ bit_at (get_or words (k / 64) 0) i) → mark_at (set words (k / 64) v) j ≡ mark_at words j
word-set_other words k v j low apart others =
    elim (cases_eq (j / 64) (k / 64)) [
      | inl same ↦
          let here : get_or (set words (k / 64) v) (j / 64) 0 ≡ v = ap (λ (i : ℕ). get_or (set words (k / 64) v) i 0) same ∙ get_or-set_same words (k / 64) v 0 (omega arith) in
          ap (λ (w : ℕ). bit_at w (j % 64)) here ∙ (others (j % 64) (omega arith) (λ e. absurd (apart (omega (arith, e, same)))) ∙ ap (λ (i : ℕ). bit_at (get_or words i 0) (j % 64)) (sym same))
      | inr other ↦ ap (λ (w : ℕ). bit_at w (j % 64)) (get_or-set_other words (k / 64) (j / 64) v 0 other)
    ]

-- the word at a place was read
pub is_word : (words now : List ℕ) (at end w : ℕ) → words ≡ now → end ≤ 64 * length now → at < end → w ≡ get_or words (at / 64) w → w ≡ get_or now (at / 64) 0
is_word words now at end w same room below read =
    get_or_read words (at / 64) w (omega (arith, ap length same, room, below)) read 0 ∙ ap (λ (ws : List ℕ). get_or ws (at / 64) 0) same

-- the bits of a word from a place on
module _ (words : List ℕ) (at ahead : ℕ) (is : ahead ≡ get_or words (at / 64) 0 / 2 ^ (at % 64)) where
  ahead-is : (t : ℕ) → bit_at ahead t ≡ bit_at (get_or words (at / 64) 0) (at % 64 + t)
  ahead-is t = ap (λ (n : ℕ). bit_at n t) is ∙ ap (λ (n : ℕ). n % 2) (shr-shr (get_or words (at / 64) 0) (at % 64) t)

  ahead-mark : (t : ℕ) → at % 64 + t < 64 → mark_at words (at + t) ≡ bit_at ahead t
  ahead-mark t below =
      let word : (at + t) / 64 ≡ at / 64 = omega (arith, below) in
      let bit : (at + t) % 64 ≡ at % 64 + t = omega (arith, below) in
      ap (λ (i : ℕ). bit_at (get_or words i 0) ((at + t) % 64)) word ∙ (ap (bit_at (get_or words (at / 64) 0)) bit ∙ sym (ahead-is t))

  pub none_ahead : ahead ≡ 0 → (k : ℕ) → at ≤ k → k < at + (64 - at % 64) → mark_at words k ≡ 0
  none_ahead none k low below =
      let place : k ≡ at + (k - at) = omega (arith, low) in
      ap (mark_at words) place ∙ (ahead-mark (k - at) (omega (arith, low, below)) ∙ (ap (λ (n : ℕ). bit_at n (k - at)) none ∙ bit_at-zero (k - at)))

  module _ (small : get_or words (at / 64) 0 < 2 ^ 64) (other : ahead ≢ 0) where
    abbrev first : ℕ
    first = trailing_zeros w64 ahead

    lowest : (first < 64) × (bit_at ahead first ≡ 1) × ((i : ℕ) → i < first → bit_at ahead i ≡ 0)
    lowest = bit_at-trailing_zeros w64 ahead (omega (arith, other)) (omega (arith, is, small, shr_le (get_or words (at / 64) 0) (at % 64)))

    inside : (b : Bool) → nat_lt (at % 64 + first) 64 ≡ b → at % 64 + first < 64
    inside true less = grind (arith, nat_tests, less)
    inside false less =
        let high : 64 ≤ at % 64 + first = grind (arith, nat_tests, less) in
        absurd (omega (arith, lowest.1, ahead-is first, bit_at_above (get_or words (at / 64) 0) 64 (at % 64 + first) small high))

    here : at % 64 + first < 64
    here = inside (nat_lt (at % 64 + first) 64) refl

    pub none_before : (k : ℕ) → at ≤ k → k < at + first → mark_at words k ≡ 0
    none_before k low below =
        let place : k ≡ at + (k - at) = omega (arith, low) in
        ap (mark_at words) place ∙ (ahead-mark (k - at) (omega (arith, low, below, here)) ∙ lowest.2 (k - at) (omega (arith, low, below)))

    pub first_marked : mark_at words (at + first) ≡ 1
    first_marked = ahead-mark first here ∙ lowest.1

-- no mark below a place, and none from it on
pub no_mark : (words : List ℕ) (from at end : ℕ) → ((k : ℕ) → from ≤ k → k < at → mark_at words k ≡ 0) → ((k : ℕ) → at ≤ k → k < end → mark_at words k ≡ 0) → (k : ℕ) → from ≤ k → k < end → mark_at words k ≡ 0
no_mark words from at end before after k low high = step (nat_lt k at) refl
  where
    step : (b : Bool) → nat_lt k at ≡ b → mark_at words k ≡ 0
    step true less = before k low (grind (arith, nat_tests, less))
    step false less = after k (grind (arith, nat_tests, less)) high
