use Rattle.std.proofs.Common.{◌≡◌, ◌∙◌, ◌++◌, ◌∷◌, [], None, sym, ap, arith, rules, map, take, replicate, Option, length, ◌<◌, ℕ}
use Rattle.std.proofs.lemmas.List.{map-append, take_more, take_all}
use Rattle.sl_actor.proofs.rows.empty_rows.Goals as goal

pub loop-count-preserved : goal.loop-count-preserved
loop-count-preserved g c =
    let i = c.loop-count.count-index in
    let counts = c.args.counts.now in
    let low : i < length counts = omega arith in
    let pushed : c.push.new.self.items ≡ c.loop-count.rows.items ++ c.in_ok-row.row ∷ [] = search rules in
    let f = λ (n : ℕ). replicate {A = Option g.row.T.Denot} n None in
    pushed ∙ ap (λ l. l ++ c.in_ok-row.row ∷ []) c.loop-count.invariant ∙ ap (λ r. map f (take i counts) ++ r ∷ []) c.in_ok-row.ensures
    ∙ sym (map-append f (take i counts) _) ∙ ap (map f) (sym (take_more counts i 0 low))

pub loop-count-init : goal.loop-count-init
loop-count-init g c = c.new-rows.ensures.items

pub returns : goal.returns
returns g c = c.loop-count.invariant ∙ ap (map (λ (n : ℕ). replicate {A = Option g.row.T.Denot} n None)) (take_all _ _ c.loop-count-test.false)
