use Rattle.std.proofs.Common.{subst, sym, refl, length, ◌-◌, drop, arith}
use Rattle.sl_layout.specs.Units.{HasPlaces}
use Rattle.sl_layout.proofs.Placing.{place_noted, none_placed}
use Rattle.sl_layout.proofs.units.place_numbers.Goals as goal

pub loop-i-init : goal.loop-i-init
loop-i-init c =
    let numbers = c.args.numbers.now in
    subst (HasPlaces (length numbers - 0) c.args.count (drop (length numbers - 0) numbers)) (sym c.in_ok-places.ensures) (none_placed numbers c.args.count)

pub loop-i-preserved : goal.loop-i-preserved
loop-i-preserved c = place_noted c.args.numbers.now c.loop-i.places.items c.args.count c.loop-i.i _ _ c.requires.numbers c.loop-i-test.true (omega arith) refl c.loop-i.invariant
