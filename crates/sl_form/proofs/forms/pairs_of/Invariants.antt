use Rattle.std.proofs.Common.{◌≡◌, ◌+◌, length}
use Rattle.sl_form.specs.Forms.{pairs_of}
use Rattle.sl_form.proofs.FormLemmas.{with_bytes}
use Rattle.sl_form.proofs.forms.pairs_of.Given as goal

abbrev pub invariant-loop-left : goal.invariant-loop-left
invariant-loop-left l = record {
  value : with_bytes l.bytes.items (pairs_of l.left) ≡ pairs_of l.text;
  len : length l.bytes.items + length l.bytes.items + length l.left ≡ length l.text;
}

abbrev pub decreases-loop-left : goal.decreases-loop-left
decreases-loop-left l = length l.left
