use Rattle.std.proofs.Common.{drop, ◌≡◌}
use Rattle.std.specs.Prelude.{filter, map, slice_get, ◌==◌}
use Rattle.sl_cut.proofs.flow.find_raw.Given as goal

abbrev pub invariant-loop-raw : goal.invariant-loop-raw
invariant-loop-raw l = slice_get (map (λ r. r.bytes) (filter (λ r. r.from == l.host) (drop l.raw-index l.raws))) l.left ≡ slice_get (map (λ r. r.bytes) (filter (λ r. r.from == l.host) l.raws)) l.place
