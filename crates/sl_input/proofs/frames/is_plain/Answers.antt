use Rattle.std.proofs.Common.{◌≡◌, ℕ, List, Bool, true, false, length, take, drop, refl, sym, ap, ◌∙◌}
use Rattle.std.specs.Prelude.{◌&&◌, ◌==◌, slice_index}
use Rattle.std.proofs.lemmas.Bool.{eq-eqb, ne_eqb}
use Rattle.std.proofs.lemmas.List.{take_rest}
use Rattle.sl_model.specs.Frame.{all_zero, is_plain}
use Rattle.sl_input.proofs.frames.is_plain.Goals.{then-bytes-eq24, else-bytes-eq24, then-all_zero, else-all_zero}
use Rattle.sl_input.proofs.frames.is_plain.Goals as goal

from_left : (a b c d : Bool) → (a && (b && (c && d))) ≡ (((a && b) && c) && d)
from_left false b c d = refl
from_left true false c d = refl
from_left true true c d = refl

-- by what the first two tests said, and the first three
plain_by : (bytes : List ℕ) (two three : Bool) → two ≡ (length bytes == 24 && all_zero (take 4 bytes)) → three ≡ (two && slice_index bytes 15 == 1)
    → is_plain bytes ≡ (three && all_zero (drop 16 bytes))
plain_by bytes two three e f = from_left (length bytes == 24) (all_zero (take 4 bytes)) (slice_index bytes 15 == 1) (all_zero (drop 16 bytes)) ∙ rw (f, e) refl

pub returns-then-bytes-eq1 : goal.returns-then-bytes-eq1
returns-then-bytes-eq1 c =
    let bytes = c.args.bytes.now in
    let two = elim c.if-bytes-eq24.branch as (λ _. c.if-bytes-eq24.value ≡ (length bytes == 24 && all_zero (take 4 bytes))) [
      | then-bytes-eq24 w ↦ rw (w.value-is, w.all_zero.ensures, eq-eqb (length bytes) 24 w.if-bytes-eq24.true) refl
      | else-bytes-eq24 w ↦ rw (w.value-is, ne_eqb (length bytes) 24 w.if-bytes-eq24.false) refl
    ] in
    let three = elim c.if-all_zero.branch as (λ _. c.if-all_zero.value ≡ (c.if-bytes-eq24.value && slice_index bytes 15 == 1)) [
      | then-all_zero w ↦ rw (w.value-is, w.if-all_zero.true) refl
      | else-all_zero w ↦ rw (w.value-is, w.if-all_zero.false) refl
    ] in
    c.all_zero-then-bytes-eq1.ensures ∙ (ap all_zero (take_rest bytes 16) ∙ sym (plain_by bytes _ _ two three ∙ rw c.if-bytes-eq1.true refl))

pub returns-else-bytes-eq1 : goal.returns-else-bytes-eq1
returns-else-bytes-eq1 c =
    let bytes = c.args.bytes.now in
    let two = elim c.if-bytes-eq24.branch as (λ _. c.if-bytes-eq24.value ≡ (length bytes == 24 && all_zero (take 4 bytes))) [
      | then-bytes-eq24 w ↦ rw (w.value-is, w.all_zero.ensures, eq-eqb (length bytes) 24 w.if-bytes-eq24.true) refl
      | else-bytes-eq24 w ↦ rw (w.value-is, ne_eqb (length bytes) 24 w.if-bytes-eq24.false) refl
    ] in
    let three = elim c.if-all_zero.branch as (λ _. c.if-all_zero.value ≡ (c.if-bytes-eq24.value && slice_index bytes 15 == 1)) [
      | then-all_zero w ↦ rw (w.value-is, w.if-all_zero.true) refl
      | else-all_zero w ↦ rw (w.value-is, w.if-all_zero.false) refl
    ] in
    sym (plain_by bytes _ _ two three ∙ rw c.if-bytes-eq1.false refl)
