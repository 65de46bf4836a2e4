use Rattle.std.proofs.Common.{◌+◌, ◌<◌, drop, length, map, sym, ap, ◌∙◌, arith}
use Rattle.sl_model.specs.Words.{first_from, or_later}
use Rattle.sl_model.specs.Accounts.{cause_by}
use Rattle.sl_simulation.specs.ObserverImage.{account_of}
use Rattle.sl_proto.proofs.Judged.{walk_on}
use Rattle.sl_proto.proofs.verdicts.first_cause.Goals as goal

pub returns-in-Some : goal.returns-in-Some
returns-in-Some c = let us = c.args.observer.now.state.units in
    let i = c.loop-unit.unit in
    let n = c.requires.collected.count in
    let low : i < length us = omega (arith, n) in
    ap (λ o. or_later i o (first_from (i + 1) (cause_by c.args.k) (drop (i + 1) (map account_of us)))) c.in-Some.ensures ∙ sym (walk_on (cause_by c.args.k) us i low) ∙ c.loop-unit.invariant

pub loop-unit-preserved : goal.loop-unit-preserved
loop-unit-preserved c = let us = c.args.observer.now.state.units in
    let i = c.loop-unit.unit in
    let n = c.requires.collected.count in
    let low : i < length us = omega (arith, n) in
    sym (walk_on (cause_by c.args.k) us i low ∙ ap (λ o. or_later i o (first_from (i + 1) (cause_by c.args.k) (drop (i + 1) (map account_of us)))) (sym c.cause_at.ensures ∙ c.in_default.is)) ∙ c.loop-unit.invariant
