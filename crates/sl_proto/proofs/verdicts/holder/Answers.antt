use Rattle.std.proofs.Common.{◌+◌, ◌<◌, drop, length, map, sym, ap, ◌∙◌, arith}
use Rattle.sl_observe.specs.Observer.{unit_at}
use Rattle.sl_model.specs.Words.{first_from, or_later}
use Rattle.sl_model.specs.Verdict.{place_or_zero}
use Rattle.sl_model.specs.Accounts.{floor_by, holds}
use Rattle.sl_simulation.specs.ObserverImage.{account_of}
use Rattle.sl_proto.specs.Told.{accounts_of}
use Rattle.sl_proto.proofs.Judged.{walk_on, floor_is_by, holds_it, holds_not}
use Rattle.sl_proto.proofs.verdicts.holder.Goals as goal

pub returns-then-seen-floor : goal.returns-then-seen-floor
returns-then-seen-floor c = let o = c.args.observer.now.state in
    let us = o.units in
    let i = c.loop-unit.unit in
    let n = c.requires.count in
    let low : i < length us = omega (arith, n) in
    let f = holds (floor_by o.issued (accounts_of o)) in
    let here = holds_it (floor_by o.issued (accounts_of o)) (account_of (unit_at us i)) (sym (ap (λ s. s.floor) c.seen.ensures) ∙ c.if-seen-floor.true ∙ c.floor-floor.ensures ∙ floor_is_by o) in
    ap place_or_zero (sym (ap (λ x. or_later i x (first_from (i + 1) f (drop (i + 1) (map account_of us)))) here) ∙ sym (walk_on f us i low) ∙ c.loop-unit.invariant)

pub loop-unit-preserved : goal.loop-unit-preserved
loop-unit-preserved c = let o = c.args.observer.now.state in
    let us = o.units in
    let i = c.loop-unit.unit in
    let n = c.requires.count in
    let low : i < length us = omega (arith, n) in
    let f = holds (floor_by o.issued (accounts_of o)) in
    let none = holds_not (floor_by o.issued (accounts_of o)) (account_of (unit_at us i)) (λ e. c.if-seen-floor.false (ap (λ s. s.floor) c.seen.ensures ∙ e ∙ sym (c.floor-floor.ensures ∙ floor_is_by o))) in
    sym (walk_on f us i low ∙ ap (λ x. or_later i x (first_from (i + 1) f (drop (i + 1) (map account_of us)))) none) ∙ c.loop-unit.invariant
