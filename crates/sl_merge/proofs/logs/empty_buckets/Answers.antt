use Rattle.std.proofs.Common.{rules, ◌≡◌, ◌++◌, ◌∷◌, [], arith}
use Rattle.sl_merge.proofs.GatherLemmas.{item_added, are_empty}
use Rattle.sl_merge.proofs.logs.empty_buckets.Goals as goal

pub loop-preserved : goal.loop-preserved
loop-preserved c =
    let pushed : c.push.new.self.items ≡ c.loop.buckets.items ++ c.new.result ∷ [] = search rules in
    let empty : c.new.result.items ≡ [] = search rules in
    item_added (λ bucket. bucket.items) c.loop.counter c.loop.buckets.items c.push.new.self.items c.new.result c.loop.invariant pushed empty

pub returns : goal.returns
returns c = are_empty c.loop.counter _ (omega arith) c.loop.invariant
