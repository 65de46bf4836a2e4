use Rattle.std.proofs.Common.{◌∙◌, ◌<◌, ◌≤◌, [], length, sym, subst, arith, All}
use Rattle.std.proofs.lemmas.List.{length-map}
use Rattle.sl_merge.specs.Merging.{IsLog}
use Rattle.sl_merge.proofs.GatherLemmas.{item_at, greatest, none_greatest, greatest_on}
use Rattle.sl_merge.proofs.logs.last_in.Goals as goal
use Rattle.sl_merge.proofs.logs.last_in.Goals.{in-Some, in_default}

pub loop-log-preserved : goal.loop-log-preserved
loop-log-preserved c =
    let n = c.loop-log.log-index in
    let low : n < length c.args.logs.now = omega arith in
    let is = c.deref.ensures.value ∙ item_at (λ log. log.items) c.args.logs.now n c.log-item.result low c.log-item.is in
    let rises = subst IsLog (sym is) (c.requires n [] (omega (arith, length-map c.args.logs.now (λ log. log.items)))) in
    let more = greatest_on (λ log. log.items) c.args.logs.now n c.loop-log.last c.match-last.last c.log-item.result low c.log-item.is c.loop-log.invariant in
    elim c.match-last.branch [
      | in-Some w ↦
          more (omega (arith, w.last-is, w.max-last.ensures))
          (subst (All (λ q. q.0 ≤ c.match-last.last)) c.deref.ensures.value (greatest c.deref.result.now w.in-Some.field-0.now c.match-last.last rises w.in-Some.ensures.value (omega (arith, w.last-is, w.max-last.ensures))))
      | in_default w ↦
          more (omega (arith, w.last-is)) (subst (All (λ q. q.0 ≤ c.match-last.last)) c.deref.ensures.value (none_greatest c.deref.result.now c.match-last.last w.in_default.ensures.value))
    ]
