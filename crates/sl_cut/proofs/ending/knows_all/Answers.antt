use Rattle.std.proofs.Common.{below_more, ◌≡◌, ℕ, ap, arith, length, refl}
use Rattle.std.proofs.lemmas.List.{length-reverse}
use Rattle.sl_layout.specs.Net.{unit_place, units}
use Rattle.sl_model.specs.History.{history}
use Rattle.sl_model.specs.Knowledge.{known, observer}
use Rattle.sl_cut.proofs.Sent.{each_of_places}
use Rattle.sl_cut.proofs.ending.knows_all.Goals as goal

pub loop-unit-preserved : goal.loop-unit-preserved
loop-unit-preserved c = below_more _ _ c.loop-unit.invariant (let e = length-reverse c.steps-in-loop-unit.result.now in cc)

pub returns : goal.returns
returns c =
    let net = c.args.net.now in let w = c.args.world.now in
    let all = ap length c.unit_actors-unit-items.ensures.actors in
    (λ e. each_of_places (λ (u : ℕ). known (unit_place net u) (observer w) ≡ length (history w u)) (units net) (λ k h. c.loop-unit.invariant k (omega (arith, all))), λ f. refl)
