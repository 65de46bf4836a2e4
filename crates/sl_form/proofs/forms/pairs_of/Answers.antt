use Rattle.std.proofs.Common.{◌≡◌, ◌++◌, ◌∷◌, [], length, get_or, drop, Some, sym, ap, ◌∙◌, arith, length-append, length-drop}
use Rattle.sl_form.specs.Forms.{byte_of}
use Rattle.sl_form.proofs.FormLemmas.{pairs_more}
use Rattle.sl_form.proofs.forms.pairs_of.Goals as goal

pub loop-left-preserved : goal.loop-left-preserved
loop-left-preserved c =
    let left = c.loop-left.left.now in
    let e : byte_of (get_or left 0 0) (get_or left 1 0) ≡ Some c.in-Some.byte = sym c.byte_of.ensures ∙ c.in-Some.is in
    let m = pairs_more left c.loop-left.bytes.items c.in-Some.byte c.loop-left-test.true e in
    let p : c.push.new.self.items ≡ c.loop-left.bytes.items ++ c.in-Some.byte ∷ [] = c.in_ok-push-in-Some.ensures.items in
    let r : c.past_pair-left.result.now ≡ drop 2 left = c.past_pair-left.ensures in
    record {
      value = cc;
      len = omega (arith, ap length p, ap length r, length-append c.loop-left.bytes.items (c.in-Some.byte ∷ []), length-drop 2 left);
    }
