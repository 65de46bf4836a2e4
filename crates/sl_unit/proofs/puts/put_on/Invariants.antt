use Rattle.std.proofs.Common.{◌≡◌, ◌++◌}
use Rattle.std.specs.Prelude.{filter}
use Rattle.sl_parts.specs.Parts.{below}
use Rattle.sl_unit.specs.Wires.{is_out}
use Rattle.sl_machine.specs.Machine.{send_all}
use Rattle.sl_unit.specs.Notes.{message_of}
use Rattle.sl_unit.proofs.puts.put_on.Given as goal

abbrev pub invariant-loop-i : goal.invariant-loop-i
invariant-loop-i l = record {
  items : l.out.items ≡ l.fn.out.items ++ send_all (message_of l.note) (filter (is_out l.way l.wires.exits) (below l.i));
  room : l.out.room ≡ l.fn.out.room;
}
