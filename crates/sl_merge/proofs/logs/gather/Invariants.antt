use Rattle.std.proofs.Common.{map}
use Rattle.sl_merge.proofs.GatherLemmas.{AreGathered}
use Rattle.sl_merge.proofs.logs.gather.Given as goal

abbrev pub invariant-loop-i : goal.invariant-loop-i
invariant-loop-i l = AreGathered l.low (map (λ log. log.items) l.logs) l.i (map (λ bucket. bucket.items) l.buckets.items) l.places.items
