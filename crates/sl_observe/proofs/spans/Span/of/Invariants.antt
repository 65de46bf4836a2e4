use Rattle.std.proofs.Common.{◌≡◌, ℕ, ◌<◌, ◌≤◌}
use Rattle.sl_observe.specs.Observer.{unit_at}
use Rattle.sl_observe.specs.Kept.{states}
use Rattle.sl_observe.proofs.spans.Span.of.Given as goal

abbrev pub invariant-loop-place : goal.invariant-loop-place
invariant-loop-place l = record {
  before : l.span.end ≤ l.place;
  ordered : l.span.first ≤ l.span.end;
  covers : (k : ℕ) → k < l.place → (unit_at (states l.units) k).device ≡ l.device → (l.span.first ≤ k) × (k < l.span.end);
}
