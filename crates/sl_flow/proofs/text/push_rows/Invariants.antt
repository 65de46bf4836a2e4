use Rattle.std.proofs.Common.{◌≡◌, ◌++◌, take, string_bytes}
use Rattle.sl_flow.specs.InputText.{rows_text}
use Rattle.sl_flow.proofs.text.push_rows.Given as goal

abbrev pub invariant-loop-i : goal.invariant-loop-i
invariant-loop-i g l = string_bytes l.out ≡ string_bytes l.fn.out ++ rows_text (g.R.Row.text l.parts) (take l.i l.rows)
