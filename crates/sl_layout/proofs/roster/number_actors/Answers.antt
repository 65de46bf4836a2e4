use Rattle.std.proofs.Common.{subst, sym, length, ◌-◌, drop, arith}
use Rattle.sl_layout.specs.Roster.{HasNumbers}
use Rattle.sl_layout.proofs.Numbering.{number_noted, none_numbered}
use Rattle.sl_layout.proofs.roster.number_actors.Goals as goal

pub loop-i-init : goal.loop-i-init
loop-i-init c =
    let actors = c.args.actors.now in
    subst (HasNumbers (length actors - 0) (drop (length actors - 0) actors)) (sym c.in_ok-numbers.ensures) (none_numbered actors)

pub loop-i-preserved : goal.loop-i-preserved
loop-i-preserved c = number_noted c.args.actors.now c.loop-i.numbers.items c.loop-i.i _ c.seat_of.result _ c.requires.few c.loop-i-test.true (omega arith) c.seat_of.ensures.seat c.loop-i.invariant
