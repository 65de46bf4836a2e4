use Rattle.std.proofs.Common.{◌≡◌, ◌∙◌, ◌++◌, ◌∷◌, [], None, Option, length, replicate, ap, rules, arith}
use Rattle.std.proofs.lemmas.List.{replicate_more, length-replicate}
use Rattle.sl_actor.proofs.rows.Row.new.Goals as goal

pub loop-preserved : goal.loop-preserved
loop-preserved g c =
    let pushed : c.push.new.self.items ≡ c.loop.places.items ++ None ∷ [] = search rules in
    pushed ∙ ap (λ l. l ++ None ∷ []) c.loop.invariant ∙ replicate_more c.loop.counter None

pub invariant_of-result : goal.invariant_of-result
invariant_of-result g c = omega (arith, ap length c.loop.invariant, length-replicate {A = Option g.row.T.Denot} c.loop.counter None, c.loop.auto.counter-end, c.ranges.count)

pub returns : goal.returns
returns g c =
    let same : c.loop.counter ≡ c.args.count = omega (arith, c.loop-test.false, c.loop.auto.counter-end) in
    c.loop.invariant ∙ ap (λ n. replicate {A = Option g.row.T.Denot} n None) same
