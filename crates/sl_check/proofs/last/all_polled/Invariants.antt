use Rattle.std.proofs.Common.{◌≡◌, ℕ, drop, None}
use Rattle.std.specs.Prelude.{slice_index_or}
use Rattle.std.specs.List.{list_all}
use Rattle.sl_layout.specs.Net.{units}
use Rattle.sl_check.specs.Polled.{is_polled}
use Rattle.sl_check.proofs.last.all_polled.Given as goal

abbrev pub invariant-loop-unit : goal.invariant-loop-unit
invariant-loop-unit l = let f = λ (u : ℕ). is_polled l.net u (slice_index_or l.last u None) in list_all f (units l.net) ≡ list_all f (drop l.unit-index (units l.net))
