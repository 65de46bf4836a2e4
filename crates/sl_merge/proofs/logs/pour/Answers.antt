use Rattle.std.proofs.Common.{rules, ◌≡◌, ◌∙◌, ◌++◌, ◌<◌, [], length, map, set, ap, arith}
use Rattle.std.proofs.lemmas.List.{length-map, map-set}
use Rattle.sl_merge.proofs.GatherLemmas.{item_at, one_poured}
use Rattle.sl_merge.proofs.logs.pour.Goals as goal

pub loop-i-preserved : goal.loop-i-preserved
loop-i-preserved c =
    let i = c.loop-i.i in
    let bs = c.loop-i.buckets.items in
    let within : i < 256 = omega (arith, c.requires) in
    let low : i < length bs = omega (arith, length-map bs (λ bucket. bucket.items), c.loop-i.invariant.each) in
    let emptied : c.append.new.other.items ≡ [] = search rules in
    let more : c.append.new.self.items ≡ c.loop-i.entries.items ++ c.index_mut.result.now.items = search rules in
    one_poured i _ (map (λ bucket. bucket.items) bs) _ _ c.loop-i.entries.items c.append.new.self.items within c.loop-i.invariant
    (map-set (λ bucket. bucket.items) bs i c.append.new.other ∙ ap (λ t. set (map (λ bucket. bucket.items) bs) i t) emptied)
    (more ∙ ap (λ t. c.loop-i.entries.items ++ t) (item_at (λ bucket. bucket.items) bs i c.index_mut.result.now low c.index_mut.ensures.value))
