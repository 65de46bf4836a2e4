use Rattle.std.proofs.Common.{◌≡◌, ◌*◌, map}
use Rattle.sl_merge.specs.Merging.{all_entries}
use Rattle.sl_merge.specs.Windows.{up_to, AreEmpty, AreAt}
use Rattle.sl_merge.proofs.logs.merge_logs.Given as goal

abbrev pub invariant-loop-window : goal.invariant-loop-window
invariant-loop-window l =
    (l.entries.items ≡ up_to (l.window * 256) (all_entries (map (λ log. log.items) l.logs)))
    × AreEmpty (map (λ bucket. bucket.items) l.buckets.items)
    × AreAt (l.window * 256) (map (λ log. log.items) l.logs) l.places.items
