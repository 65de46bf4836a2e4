use Rattle.std.proofs.Common.{take, ◌≡◌, ◌≤◌}
use Rattle.std.specs.Prelude.{count_by, ◌==◌}
use Rattle.sl_cut.proofs.ending.raw_count.Given as goal

abbrev pub invariant-loop-raw : goal.invariant-loop-raw
invariant-loop-raw l = record { count : l.count ≡ count_by (λ r. r.from == l.host) (take l.raw-index l.raws); bound : l.count ≤ l.raw-index }
