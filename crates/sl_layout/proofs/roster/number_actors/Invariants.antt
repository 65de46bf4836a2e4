use Rattle.std.proofs.Common.{drop, ◌-◌}
use Rattle.sl_layout.specs.Roster.{HasNumbers}
use Rattle.sl_layout.proofs.roster.number_actors.Given as goal

abbrev pub invariant-loop-i : goal.invariant-loop-i
invariant-loop-i l = HasNumbers (l.count - l.i) (drop (l.count - l.i) l.actors) l.numbers.items
