use Rattle.std.proofs.Common.{map}
use Rattle.sl_merge.proofs.GatherLemmas.{IsGathered}
use Rattle.sl_merge.proofs.logs.gather_log.Given as goal

abbrev pub invariant-loop-i : goal.invariant-loop-i
invariant-loop-i l = IsGathered l.low l.actor l.log l.i (map (λ bucket. bucket.items) l.initial.buckets.items) (map (λ bucket. bucket.items) l.buckets.items)
