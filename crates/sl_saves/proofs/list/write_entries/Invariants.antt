use Rattle.std.proofs.Common.{◌≡◌, ◌%◌, drop, length}
use Rattle.sl_saves.specs.Keeping.{written}
use Rattle.sl_saves.proofs.list.write_entries.Given as goal

abbrev pub invariant-loop-i : goal.invariant-loop-i
invariant-loop-i l = record { size : length l.slots ≡ l.size; place : l.place ≡ l.number % l.size; rest : written l.slots (drop l.i l.entries) ≡ written l.fn.slots (drop l.from l.entries) }
