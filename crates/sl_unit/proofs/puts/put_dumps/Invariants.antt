use Rattle.std.proofs.Common.{◌≡◌, ◌++◌, ◌+◌, length}
use Rattle.std.specs.Prelude.{filter}
use Rattle.std.specs.List.{All}
use Rattle.sl_layout.specs.declared.actor.Sort.TheVariants as sort
use Rattle.sl_parts.specs.Parts.{below}
use Rattle.sl_wire.specs.declared.message.Dump.{Dump}
use Rattle.sl_wire.specs.declared.message.Msg.TheVariants.{Dump as DumpMsg}
use Rattle.sl_unit.specs.declared.wires.Way.TheVariants.{All as AllOf}
use Rattle.sl_unit.specs.Wires.{is_out}
use Rattle.sl_machine.specs.Machine.{send_all}
use Rattle.sl_unit.proofs.puts.put_dumps.Given as goal

abbrev pub invariant-loop-i : goal.invariant-loop-i
invariant-loop-i l = record {
  items : (dump : Dump) → All (λ d. d ≡ dump) l.fn.dumps.items
      → l.out.items ≡ l.fn.out.items ++ send_all (DumpMsg dump) (filter (is_out (AllOf sort.Dump) l.wires.exits) (below l.i));
  many : length l.out.items ≡ length l.fn.out.items + length (filter (is_out (AllOf sort.Dump) l.wires.exits) (below l.i));
  room : l.out.room ≡ l.fn.out.room;
  left : length l.dumps.items + length (filter (is_out (AllOf sort.Dump) l.wires.exits) (below l.i)) ≡ length l.fn.dumps.items;
  same : (dump : Dump) → All (λ d. d ≡ dump) l.fn.dumps.items → All (λ d. d ≡ dump) l.dumps.items;
}
