use Rattle.std.proofs.Common.{◌≡◌, ◌<◌, ap, length, arith}
use Rattle.std.specs.Prelude.{slice_index}
use Rattle.sl_world.proofs.PlaceLemmas.{position_within}
use Rattle.sl_world.proofs.MeshLemmas.{count_is, none_in}
use Rattle.sl_world.proofs.links.Links.incoming.Goals as goal

pub place-requires-clause-number : goal.place-requires-clause-number
place-requires-clause-number g c =
    let fields = c.self.inside in
    let low : c.args.actor < length fields.wiring.ins = omega (arith, ap (λ m. length m.plan.ins) c.self.view_is, c.requires) in
    let count : c.index.result.now ≡ slice_index fields.wiring.ins c.args.actor = count_is c.wiring.inside.in_counts.items fields.wiring.ins c.args.actor c.index.result.now (ap (λ p. p.ins) c.wiring.view_is) low c.index.ensures in
    position_within fields.ins fields.wiring.ins c.args.actor c.args.choice c.self.invariant.in_places.laid_out low (omega arith)

pub returns-else-choice-index : goal.returns-else-choice-index
returns-else-choice-index g c =
    none_in c.self.inside.wiring c.args.self.now.plan c.wiring.inside.in_counts.items c.index.result.now c.args.actor c.args.choice (ap (λ m. m.plan) c.self.view_is) (ap (λ p. p.ins) c.wiring.view_is) c.self.invariant.sound c.index.ensures c.requires c.if-choice-index.false
