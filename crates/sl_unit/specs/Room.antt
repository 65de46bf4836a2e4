-- Trusted text for nodes.
-- What the registers of a unit stand for, and the room that a turn needs.
use Rattle.std.specs.Prelude.{◌≡◌, ℕ, true, List, length}
use Rattle.std.specs.List.{All}
use Rattle.sl_layout.specs.declared.actor.Sort.TheVariants.{Dump as DumpSort}
use Rattle.sl_saves.specs.Rings.{ring_view, ring_credits}
use Rattle.sl_wire.specs.declared.message.Dump.{Dump}
use Rattle.sl_unit.specs.declared.wires.Way.TheVariants.{All as AllOf}
use Rattle.sl_unit.specs.declared.registers.Registers.{Registers as Declared}
use Rattle.sl_unit.specs.Wires.{Wires, outs, entrance_at, is_poll}
use Rattle.sl_unit.specs.Registers.{Registers, dump_of}
use Rattle.sl_unit.specs.Step.{UnitState}

abbrev pub registers_of : Declared → Registers
registers_of r = record {
  id = r.id;
  cpu = r.cpu;
  last = r.last;
  packets = r.packets;
  bytes = r.bytes;
  bad = r.bad;
  expired = r.expired;
  noroute = r.noroute;
  saved = ring_view r.saves;
}

-- to how many saved numbers it credits a data packet at most
abbrev pub credits_of : Declared → ℕ
credits_of r = ring_credits r.saves

abbrev pub state_of : Wires → Declared → UnitState
state_of wires r = record { wires = wires; window = r.window; credits = credits_of r; registers = registers_of r }

-- there are as many dumps of the registers as there are links of dumps
pub record HasDumps (w : Wires) (r : Registers) (dumps : List Dump) : Type 0 where
  pub many : length dumps ≡ length (outs (AllOf DumpSort) w.exits)
  pub same : All (λ dump. dump ≡ dump_of r) dumps

-- the room for a turn of the choice c
abbrev pub HasRoom : Wires → Declared → List Dump → ℕ → Type 0
HasRoom w r dumps c = is_poll (entrance_at w c) ≡ true → HasDumps w (registers_of r) dumps
