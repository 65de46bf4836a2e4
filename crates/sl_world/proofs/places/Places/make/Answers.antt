use Rattle.std.proofs.Common.{refl}
use Rattle.sl_world.proofs.PlaceLemmas.{entered, position_within}
use Rattle.sl_world.proofs.places.Places.make.Goals as goal

pub loop-place-preserved : goal.loop-place-preserved
loop-place-preserved c =
    entered c.loop-place.table c.set.new.self c.args.counts.now c.args.pairs.now c.loop-place.place _ _ c.loop-place.invariant.laid_out c.requires c.loop-place-test.true refl c.set.ensures.starts c.set.ensures.places c.loop-place.invariant.finds

pub set-requires-clause-number : goal.set-requires-clause-number
set-requires-clause-number c =
    position_within c.loop-place.table c.args.counts.now _ _ c.loop-place.invariant.laid_out (c.requires.actor_below c.loop-place.place c.loop-place-test.true) (c.requires.number_below c.loop-place.place c.loop-place-test.true)
