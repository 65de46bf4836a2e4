use Rattle.std.proofs.Common.{◌∙◌, ◌+◌, ◌<◌, ℕ, List, length, map, refl, subst, arith}
use Rattle.std.proofs.lemmas.List.{length-map}
use Rattle.sl_merge.specs.Merging.{entries_by}
use Rattle.sl_merge.specs.Windows.{HaveMore, IsAt}
use Rattle.sl_merge.proofs.GatherLemmas.{item_at, one_gathered}
use Rattle.sl_merge.proofs.logs.gather.Goals as goal

pub loop-i-preserved : goal.loop-i-preserved
loop-i-preserved c =
    let i = c.loop-i.i in
    let low : i < length c.args.logs.now = omega arith in
    let log = c.as_slice.ensures.value ∙ item_at (λ log. log.items) c.args.logs.now i c.index-logs-i.result low c.index-logs-i.is in
    one_gathered c.args.low (map (λ log. log.items) c.args.logs.now) i c.in_ok-places.field-0 (map (λ bucket. bucket.items) c.loop-i.buckets.items) (map (λ bucket. bucket.items) c.gather_log.new.buckets.items) c.loop-i.places.items _
    c.loop-i.invariant (omega (arith, length-map c.args.logs.now (λ log. log.items)))
    (subst (λ (l : List (ℕ × ℕ)). HaveMore c.args.low (entries_by i l) (map (λ bucket. bucket.items) c.loop-i.buckets.items) (map (λ bucket. bucket.items) c.gather_log.new.buckets.items)) log c.in_ok-places.ensures.buckets)
    (subst (λ (l : List (ℕ × ℕ)). IsAt (c.args.low + 256) l c.in_ok-places.field-0) log c.in_ok-places.ensures.place) refl
