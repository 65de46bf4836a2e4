use Rattle.std.proofs.Common.{◌++◌, ◌∷◌, [], ◌<◌, length, map, take, take_all, sym, ap, ◌∙◌, arith}
use Rattle.std.proofs.lemmas.List.{length-map}
use Rattle.sl_simulation.specs.ObserverImage.{account_of}
use Rattle.sl_model.specs.Accounts.{row_of, value_row}
use Rattle.sl_proto.specs.Told.{accounts_of}
use Rattle.sl_proto.proofs.Judged.{more_made}
use Rattle.sl_proto.proofs.verdicts.rows.Goals as goal

pub loop-unit-preserved : goal.loop-unit-preserved
loop-unit-preserved c = let o = c.args.observer.now.state in
    let i = c.loop-unit.unit in
    let n = c.requires.units in
    let low : i < length o.units = omega (arith, n) in
    c.in_ok-push.ensures.items ∙ ap (λ xs. xs ++ c.row_at.result ∷ []) c.loop-unit.invariant ∙ ap (λ r. map (λ a. value_row (row_of c.args.k a)) (take i (accounts_of o)) ++ r ∷ []) c.row_at.ensures
    ∙ sym (more_made (λ a. value_row (row_of c.args.k a)) o.units i low)

pub returns : goal.returns
returns c = let o = c.args.observer.now.state in
    let n = length-map o.units account_of in
    c.loop-unit.invariant ∙ ap (map (λ a. value_row (row_of c.args.k a))) (take_all c.loop-unit.unit (accounts_of o) (omega (arith, n, c.requires.units, c.loop-unit-test.false, c.unit_count-count.ensures.count)))
