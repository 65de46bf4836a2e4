use Rattle.std.proofs.Common.{◌∙◌, ◌*◌, ◌<◌, ◌/◌, ◌%◌, ◌≡◌, ◌≢◌, ℕ, List, length, ap, arith}
use Rattle.std.specs.Int.{bit_at, w64}
use Rattle.std.specs.Prelude.{if◌then◌else◌}
use Rattle.std.proofs.lemmas.List.{get_or_read}
use Rattle.std.proofs.lemmas.Nat.Bits.{bit_at_set_same, bit_at_set_other, bit_at_clear_same, bit_at_clear_other}
use Rattle.sl_world.specs.Marks.{mark_at}
use Rattle.sl_world.proofs.BitLemmas.{word-set_same, word-set_other}
use Rattle.sl_world.proofs.marks.Marks.write.Goals as goal
use Rattle.sl_world.proofs.marks.Marks.write.Goals.{then-on, else-on}

pub returns-clause-same : goal.returns-clause-same
returns-clause-same c =
    let low : c.args.k < 64 * length c.self.inside.words.items = omega (arith, ap length c.self.view_is, c.requires) in
    let bit : bit_at c.if-on.marked (c.args.k % 64) ≡ (if c.args.on then 1 else 0) =
    elim c.if-on.branch [
      | then-on w ↦ rw (w.marked-is, w.if-on.true) (bit_at_set_same w64 c.index-word.result.now (c.args.k % 64) (omega arith))
      | else-on w ↦ rw (w.marked-is, w.if-on.false) (bit_at_clear_same w64 c.index-word.result.now (c.args.k % 64) (omega arith))
    ] in
    word-set_same c.self.inside.words.items c.args.k c.if-on.marked low ∙ bit

pub returns-clause-others : goal.returns-clause-others
returns-clause-others c = λ j apart.
    let low : c.args.k < 64 * length c.self.inside.words.items = omega (arith, ap length c.self.view_is, c.requires) in
    let read = get_or_read c.self.inside.words.items (c.args.k / 64) c.index-word.result.now (omega (arith, low)) c.index-word.ensures 0 in
    let bits : (i : ℕ) → i < 64 → i ≢ c.args.k % 64 → bit_at c.if-on.marked i ≡ bit_at c.index-word.result.now i = λ i within other.
    elim c.if-on.branch [
      | then-on w ↦ rw w.marked-is (bit_at_set_other w64 c.index-word.result.now (c.args.k % 64) (omega arith) i other)
      | else-on w ↦ rw w.marked-is (bit_at_clear_other w64 c.index-word.result.now (c.args.k % 64) (omega arith) i within other)
    ] in
    word-set_other c.self.inside.words.items c.args.k c.if-on.marked j low apart (λ i within other. bits i within other ∙ ap (λ (w : ℕ). bit_at w i) read) ∙ ap (λ (ws : List ℕ). mark_at ws j) c.self.view_is
