use Rattle.std.proofs.Common.{◌≡◌, ◌<◌, ◌∙◌, arith, get_or, subst, sym}
use Rattle.std.proofs.lemmas.List.{get_or_default}
use Rattle.sl_unit.specs.declared.wires.Entrance.TheVariants.{Host, Other}
use Rattle.sl_unit.specs.Wires.{IsSmall}
use Rattle.sl_unit.proofs.Entrances.{small_at}
use Rattle.sl_unit.proofs.wires.Wires.entrance.Goals as goal

pub returns-then-choice-lt10-clause-small : goal.returns-then-choice-lt10-clause-small
returns-then-choice-lt10-clause-small c =
    let w = c.self.inside in
    let early = c.self.invariant.2 in
    let i = c.args.choice in
    let low : i < 10 = c.if-choice-lt10.true in
    let same : get_or w.early i Host ≡ get_or w.entrances.items i Other = get_or_default w.early i Host Other (omega (arith, early.many, low)) ∙ early.same i low in
    subst IsSmall (sym same) (small_at w.entrances.items i c.self.invariant.0.small)
