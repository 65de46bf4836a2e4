use Rattle.std.proofs.Common.{rules, ◌≡◌, ◌∙◌, ◌++◌, ◌∷◌, [], ◌+◌, ◌-◌, ◌<◌, ◌≤◌, length, get_or, map, arith}
use Rattle.std.proofs.lemmas.List.{length-map, get_or_default}
use Rattle.sl_merge.proofs.GatherLemmas.{entry, at_place, gathered_on, all_gathered, next_place, all_past, item_pushed}
use Rattle.sl_merge.proofs.logs.gather_log.Goals as goal

pub loop-i-init : goal.loop-i-init
loop-i-init c = at_place c.args.low c.args.actor c.args.log.now c.args.place _ (length-map c.args.buckets.now.items (λ bucket. bucket.items) ∙ c.requires.each) c.requires.place

pub returns-then-after : goal.returns-then-after
returns-then-after c =
    let i = c.loop-i.i in
    let log = c.args.log.now in
    let there : i < length log = omega arith in
    let far : c.args.low + 256 ≤ (get_or log i (0, 0)).0 = omega arith in
    let past = all_past c.args.low log i (get_or log i (0, 0)) c.requires.log (get_or_default log i (get_or log i (0, 0)) (0, 0) there) far in
    record {
      buckets = all_gathered c.args.low c.args.actor log i _ _ c.loop-i.invariant (omega arith) past;
      place = next_place c.args.low c.args.actor log i _ _ c.loop-i.invariant (omega arith) past;
    }

pub loop-i-preserved : goal.loop-i-preserved
loop-i-preserved c =
    let i = c.loop-i.i in
    let log = c.args.log.now in
    let p = get_or log i (0, 0) in
    let there : i < length log = omega arith in
    let low : c.args.low ≤ p.0 = c.requires.place.after i (0, 0) (omega arith) there in
    let within : p.0 - c.args.low < 256 = omega arith in
    let pushed : c.push.new.self.items ≡ c.index_mut.result.now.items ++ entry c.args.actor p ∷ [] = search rules in
    let each : length (map (λ bucket. bucket.items) c.loop-i.buckets.items) ≡ 256 = c.loop-i.invariant.buckets.each in
    gathered_on c.args.low c.args.actor log i (p.0 - c.args.low) p _ _ _ c.loop-i.invariant there (get_or_default log i p (0, 0) there) within (omega arith)
    (item_pushed (λ bucket. bucket.items) c.loop-i.buckets.items (p.0 - c.args.low) c.index_mut.result.now c.push.new.self (entry c.args.actor p ∷ [])
    (omega (arith, length-map c.loop-i.buckets.items (λ bucket. bucket.items))) c.index_mut.ensures.value pushed)
