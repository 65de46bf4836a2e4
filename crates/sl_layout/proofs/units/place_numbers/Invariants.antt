use Rattle.std.proofs.Common.{drop, ◌-◌}
use Rattle.sl_layout.specs.Units.{HasPlaces}
use Rattle.sl_layout.proofs.units.place_numbers.Given as goal

abbrev pub invariant-loop-i : goal.invariant-loop-i
invariant-loop-i l = HasPlaces (l.total - l.i) l.count (drop (l.total - l.i) l.numbers) l.places.items
