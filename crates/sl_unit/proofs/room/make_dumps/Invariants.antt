use Rattle.std.proofs.Common.{◌≡◌, length}
use Rattle.std.specs.List.{All}
use Rattle.sl_unit.specs.Registers.{dump_of}
use Rattle.sl_unit.specs.Room.{registers_of}
use Rattle.sl_unit.proofs.room.make_dumps.Given as goal

abbrev pub invariant-loop-i : goal.invariant-loop-i
invariant-loop-i l = record {
  many : length l.dumps.items ≡ l._i;
  same : All (λ dump. dump ≡ dump_of (registers_of l.fn.registers)) l.dumps.items;
  kept : l.registers ≡ l.fn.registers;
}
