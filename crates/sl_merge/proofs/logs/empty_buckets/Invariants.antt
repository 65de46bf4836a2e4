use Rattle.std.proofs.Common.{◌≡◌, [], map, replicate}
use Rattle.sl_merge.proofs.logs.empty_buckets.Given as goal

abbrev pub invariant-loop : goal.invariant-loop
invariant-loop l = map (λ bucket. bucket.items) l.buckets.items ≡ replicate l.counter []
