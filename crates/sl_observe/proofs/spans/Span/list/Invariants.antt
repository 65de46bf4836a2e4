use Rattle.std.proofs.Common.{◌≡◌, ℕ, ◌<◌, length}
use Rattle.sl_observe.specs.Kept.{states, HasSpan, span_at}
use Rattle.sl_observe.proofs.spans.Span.list.Given as goal

abbrev pub invariant-loop-device : goal.invariant-loop-device
invariant-loop-device l = record { size : length l.spans.items ≡ l.device; each : (d : ℕ) → d < l.device → HasSpan (states l.units) d (span_at l.spans.items d) }
