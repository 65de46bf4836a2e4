-- Eight bytes in a number of 64 bits: the number of eight bytes has these bytes, and some of them are 0 where the number that they make is.
use Rattle.std.proofs.Common.{◌≡◌, ℕ, ◌+◌, ◌*◌, ◌/◌, ◌%◌, ◌<◌, ◌==◌, Bool, false, sym, ◌∙◌, zero, suc, List, [], ◌∷◌, ◌++◌, length, refl, ap, arith}
use Rattle.std.specs.Prelude.{◌&&◌, slice_range}
use Rattle.std.proofs.Math.Bool.{and_assoc, and-true}
use Rattle.std.proofs.lemmas.Bool.{ne_eqb}
use Rattle.sl_wire.specs.Frames.{word, all_zero, packet_of, reserved_in, IsBytes}
use Rattle.sl_wire.specs.Framed.{first, second, third, fourth, bytes_in, frame_in}
use Rattle.sl_wire.proofs.FrameLemmas.{by_cells, split, high, low}

-- ---- the bytes of the number of eight bytes
module _ (a b c d e f g h : ℕ) (af : a < 256) (bf : b < 256) (cf : c < 256) (df : d < 256) (ef : e < 256) (ff : f < 256) (gf : g < 256) (hf : h < 256) where
  abbrev all : ℕ
  all = ((((((a * 256 + b) * 256 + c) * 256 + d) * 256 + e) * 256 + f) * 256 + g) * 256 + h

  first_is : first all ≡ a * 256 + b
  first_is = omega (arith, cf, df, ef, ff, gf, hf)

  second_is : second all ≡ c * 256 + d
  second_is = omega (arith, cf, df, ef, ff, gf, hf)

  third_is : third all ≡ e * 256 + f
  third_is = omega (arith, ef, ff, gf, hf)

  fourth_is : fourth all ≡ g * 256 + h
  fourth_is = omega (arith, gf, hf)

  same_bytes : bytes_in all ≡ a ∷ b ∷ c ∷ d ∷ e ∷ f ∷ g ∷ h ∷ []
  same_bytes = rw (first_is, second_is, third_is, fourth_is, high a b bf, low a b bf, high c d df, low c d df, high e f ff, low e f ff, high g h hf, low g h hf) refl

abbrev pub Same : List ℕ → Type 0
Same bs = bytes_in (word bs 0) ++ (bytes_in (word bs 8) ++ bytes_in (word bs 16)) ≡ bs

three : {xs ys zs us vs ws : List ℕ} → xs ≡ us → ys ≡ vs → zs ≡ ws → xs ++ (ys ++ zs) ≡ us ++ (vs ++ ws)
three e f g = rw (e, f, g) refl

-- three numbers of eight bytes each have 24 bytes
pub same_words : (bs : List ℕ) → length bs ≡ 24 → IsBytes bs → Same bs
same_words = by_cells Same (λ b fits. three
    (same_bytes (b 0) (b 1) (b 2) (b 3) (b 4) (b 5) (b 6) (b 7) (fits 0) (fits 1) (fits 2) (fits 3) (fits 4) (fits 5) (fits 6) (fits 7))
    (same_bytes (b 8) (b 9) (b 10) (b 11) (b 12) (b 13) (b 14) (b 15) (fits 8) (fits 9) (fits 10) (fits 11) (fits 12) (fits 13) (fits 14) (fits 15))
    (same_bytes (b 16) (b 17) (b 18) (b 19) (b 20) (b 21) (b 22) (b 23) (fits 16) (fits 17) (fits 18) (fits 19) (fits 20) (fits 21) (fits 22) (fits 23)))

-- ---- bytes that are 0
not_zero : (n : ℕ) → 0 < n → (n == 0) ≡ false
not_zero n l = ne_eqb n 0 (λ e. omega arith)

joined : (a b : ℕ) → (a * 256 + b == 0) ≡ (a == 0 && b == 0)
joined zero b = ap (λ n. n == 0) (omega arith)
joined (suc a) b = rw (not_zero (suc a) (omega arith), not_zero (suc a * 256 + b) (omega arith)) refl

last_four : (w : ℕ) → w % 4294967296 ≡ ((third w / 256 * 256 + third w % 256) * 256 + fourth w / 256) * 256 + fourth w % 256
last_four w = omega arith

first_seven : (w : ℕ) → w / 256 ≡ (((((first w / 256 * 256 + first w % 256) * 256 + second w / 256) * 256 + second w % 256) * 256 + third w / 256) * 256 + third w % 256) * 256 + fourth w / 256
first_seven w = omega arith

-- the eleven bytes of a packet, in the number in front and the one in the middle, by whether the first are 0
pub no_packet : (front middle back : ℕ) (b : Bool) → (front % 4294967296 == 0) ≡ b → (b && middle / 256 == 0) ≡ all_zero (slice_range (frame_in front middle back).bytes 4 15)
no_packet front middle back b is = ap (λ c. c && middle / 256 == 0) (sym is) ∙ rw (last_four front, first_seven middle) (simp (joined, and_assoc, and-true))

last_six : (w : ℕ) → w % 281474976710656 ≡ ((((second w / 256 * 256 + second w % 256) * 256 + third w / 256) * 256 + third w % 256) * 256 + fourth w / 256) * 256 + fourth w % 256
last_six w = omega arith

all_eight : (w : ℕ) → w ≡ ((((((first w / 256 * 256 + first w % 256) * 256 + second w / 256) * 256 + second w % 256) * 256 + third w / 256) * 256 + third w % 256) * 256 + fourth w / 256) * 256 + fourth w % 256
all_eight w = omega arith

-- the bytes after the check, or after the version, in the number at the back
pub reserved_two : (front middle back v : ℕ) → v ≡ 2 → (back % 281474976710656 == 0) ≡ all_zero (reserved_in v (frame_in front middle back).bytes)
reserved_two front middle back v is = ap (λ n. n == 0) (last_six back) ∙ rw is (simp (joined, and_assoc, and-true))

pub reserved_else : (front middle back v : ℕ) → (v == 2) ≡ false → (back == 0) ≡ all_zero (reserved_in v (frame_in front middle back).bytes)
reserved_else front middle back v is = ap (λ n. n == 0) (all_eight back) ∙ rw is (simp (joined, and_assoc, and-true))

-- ---- the packet that is read off
first_four : (w : ℕ) → first w * 65536 + second w ≡ w / 4294967296
first_four w = omega arith

pub packet_in : (front middle back : ℕ)
    → record { src = third front; dst = fourth front; seq = middle / 4294967296; len = third middle; hops = fourth middle / 256 } ≡ packet_of (frame_in front middle back).bytes
unfolding packet_of
packet_in front middle back = simp (split, first_four)
