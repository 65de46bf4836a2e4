use Rattle.std.proofs.Common.{◌≡◌, ◌++◌, drop, string_bytes}
use Rattle.sl_value.specs.ValuesText.{value_lines}
use Rattle.sl_value.proofs.text.push_values.Given as goal

abbrev pub invariant-loop-i : goal.invariant-loop-i
invariant-loop-i l = string_bytes l.out ++ value_lines l.net (drop l.i l.units) (drop l.i l.values) ≡ string_bytes l.fn.out ++ value_lines l.net l.units l.values
