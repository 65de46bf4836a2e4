-- Where the outgoing links of a way lie, so that who puts a message looks at few others. Nothing that other crates see depends on it.
use Rattle.std.specs.Prelude.{◌≡◌, ℕ, ◌+◌, ◌<◌, ◌≤◌, Bool, true, List, [], length, filter, slice_index_or}
use Rattle.sl_layout.specs.declared.actor.Sort.TheVariants.{Cable, ToHost, Crossbar, Notice, Dump}
use Rattle.sl_parts.specs.Parts.{below}
use Rattle.sl_unit.specs.declared.wires.Exit.{Exit}
use Rattle.sl_unit.specs.declared.wires.Span.{Span}
use Rattle.sl_unit.specs.declared.wires.Spans.{Spans}
use Rattle.sl_unit.specs.declared.wires.Way.{Way}
use Rattle.sl_unit.specs.declared.wires.Way.TheVariants.{All, Toward}
use Rattle.sl_unit.specs.Wires.{is_out}

-- of the numbers below a count, those that pass lie in the span, and where it isn't empty, its first and its last are of them
pub record IsSpan (passes : ℕ → Bool) (count : ℕ) (span : Span) : Type 0 where
  pub start : span.from ≤ span.end
  pub within : span.end ≤ count
  pub before : filter passes (below span.from) ≡ []
  pub through : filter passes (below span.end) ≡ filter passes (below count)
  pub first : span.from < span.end → passes span.from ≡ true
  pub last : (k : ℕ) → k + 1 ≡ span.end → span.from < span.end → passes k ≡ true

-- the links of a way lie in the span
abbrev pub IsSpanOf : Way → List Exit → Span → Type 0
IsSpanOf way exits span = IsSpan (is_out way exits) (length exits) span

abbrev pub no_span : Span
no_span = record { from = 0; end = 0 }

-- the crossbar links to the egress units of a device's first ports, by port
abbrev pub AreByPort : ℕ → List Exit → ℕ → List Span → Type 0
AreByPort device exits ports spans = (port : ℕ) → port < ports → IsSpanOf (Toward device port) exits (slice_index_or spans port no_span)

-- those of the ways that units use
pub record AreSpans (device : ℕ) (exits : List Exit) (spans : Spans) : Type 0 where
  pub cable : IsSpanOf (All Cable) exits spans.cable
  pub to_host : IsSpanOf (All ToHost) exits spans.to_host
  pub crossbar : IsSpanOf (All Crossbar) exits spans.crossbar
  pub notice : IsSpanOf (All Notice) exits spans.notice
  pub dump : IsSpanOf (All Dump) exits spans.dump
  pub ports : AreByPort device exits 8 spans.ports
