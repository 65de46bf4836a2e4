use Rattle.std.proofs.Common.{map}
use Rattle.sl_merge.proofs.GatherLemmas.{IsPoured}
use Rattle.sl_merge.proofs.logs.pour.Given as goal

abbrev pub invariant-loop-i : goal.invariant-loop-i
invariant-loop-i l = IsPoured l.i (map (λ bucket. bucket.items) l.initial.buckets.items) (map (λ bucket. bucket.items) l.buckets.items) l.initial.entries.items l.entries.items
