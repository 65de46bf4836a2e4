use Rattle.std.proofs.Common.{◌≡◌, ◌≤◌, length}
use Rattle.std.specs.Prelude.{filter}
use Rattle.sl_parts.specs.Parts.{below}
use Rattle.sl_unit.specs.Wires.{is_out}
use Rattle.sl_unit.proofs.room.count_outs.Given as goal

abbrev pub invariant-loop-i : goal.invariant-loop-i
invariant-loop-i l = record {
  many : l.count ≡ length (filter (is_out l.way l.wires.exits) (below l.i));
  few : l.count ≤ l.i;
}
