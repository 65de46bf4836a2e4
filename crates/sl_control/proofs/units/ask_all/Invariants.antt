use Rattle.std.proofs.Common.{◌≡◌, ◌≤◌, ◌+◌, ◌++◌, length, take, drop, map}
use Rattle.std.specs.Prelude.{None, flat_map}
use Rattle.sl_control.specs.Control.{ask_by, ask_puts}
use Rattle.sl_control.proofs.units.ask_all.Given as goal

abbrev pub invariant-loop-i : goal.invariant-loop-i
invariant-loop-i l = record {
  units : l.units.items ≡ map (ask_by None) (take l.i l.initial.units.items) ++ drop l.i l.initial.units.items;
  puts : l.out.items ≡ l.initial.out.items ++ flat_map (ask_puts None) (take l.i l.initial.units.items);
  few : length l.out.items ≤ length l.initial.out.items + l.i;
  len : length l.units.items ≡ length l.initial.units.items;
  room : l.out.room ≡ l.initial.out.room;
}
