-- Trusted text for nodes, but for unit_counts, unit_ready, shown_counts.
-- What a unit stands for.
use Rattle.std.specs.Prelude.{ℕ, Option}
use Rattle.sl_machine.specs.Machine.{Counts}
use Rattle.sl_unit.specs.declared.unit.Unit.{Unit as Declared}
use Rattle.sl_unit.specs.declared.unit.UnitCounts.{UnitCounts}
use Rattle.sl_unit.specs.Registers.{Registers}
use Rattle.sl_unit.specs.Room.{state_of}
use Rattle.sl_unit.specs.Step.{UnitState, counts_of}

abbrev pub unit_state : Declared → UnitState
unit_state u = state_of u.wires u.registers

abbrev pub unit_counts : Declared → Counts
unit_counts u = counts_of u.wires

abbrev pub unit_ready : Declared → Option ℕ
unit_ready u = u.prepared

abbrev pub shown_counts : Registers → UnitCounts
shown_counts r = record { packets = r.packets; bytes = r.bytes; bad = r.bad; expired = r.expired; noroute = r.noroute }
