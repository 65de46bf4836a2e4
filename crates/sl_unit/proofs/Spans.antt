-- Spans of the numbers that pass, and the links of a way in its span.
use Rattle.std.proofs.Common.{◌≡◌, ℕ, ◌+◌, ◌<◌, ◌≤◌, List, [], ◌∷◌, ◌++◌, length, sym, ap, ◌∙◌, arith, append-nil}
use Rattle.std.specs.Prelude.{Bool, cond, false, true, filter}
use Rattle.sl_parts.specs.Parts.{below}
use Rattle.sl_parts.proofs.Lists.{filter_below_more}
use Rattle.sl_unit.specs.declared.wires.Exit.{Exit}
use Rattle.sl_unit.specs.declared.wires.Span.{Span}
use Rattle.sl_unit.specs.declared.wires.Way.{Way}
use Rattle.sl_unit.specs.Wires.{is_out, outs}
use Rattle.sl_unit.specs.Spans.{IsSpan, IsSpanOf}
use Rattle.sl_unit.proofs.Outs.{outs_rise}

-- a number that doesn't pass
pub one_without : (p : ℕ → Bool) (n : ℕ) (span : Span) → p n ≡ false → IsSpan p n span → IsSpan p (n + 1) span
one_without p n span f s = record {
  start = s.start;
  within = omega (arith, s.within);
  before = s.before;
  through = s.through ∙ sym (filter_below_more p n ∙ ap (λ b. filter p (below n) ++ cond b (n ∷ []) []) f ∙ append-nil (filter p (below n)));
  first = s.first;
  last = s.last;
}

-- all that pass lie below the end
pub at_end : (p : ℕ → Bool) (n i : ℕ) (span : Span) → IsSpan p n span → span.end ≤ i → (span.from ≤ span.end → i ≤ span.end)
    → filter p (below i) ≡ filter p (below n)
at_end p n i span s high low = let e : i ≡ span.end = omega (arith, low s.start) in ap (λ k. filter p (below k)) e ∙ s.through

-- a link of the way is one more of its links
pub is_one_more : (way : Way) (exits : List Exit) (span : Span) (i : ℕ) → IsSpanOf way exits span → i < span.end → is_out way exits i ≡ true
    → length (filter (is_out way exits) (below i)) < length (outs way exits)
is_one_more way exits span i s low t = outs_rise (is_out way exits) i (length exits) (omega (arith, s.within)) t
