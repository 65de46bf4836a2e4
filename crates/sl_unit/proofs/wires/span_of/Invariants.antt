use Rattle.sl_unit.specs.Wires.{is_out}
use Rattle.sl_unit.specs.Spans.{IsSpan}
use Rattle.sl_unit.proofs.wires.span_of.Given as goal

abbrev pub invariant-loop-i : goal.invariant-loop-i
invariant-loop-i l = record { span : IsSpan (is_out l.way l.exits) l.i l.span }
