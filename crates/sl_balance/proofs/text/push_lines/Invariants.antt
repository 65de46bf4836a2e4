use Rattle.std.proofs.Common.{◌≡◌, ◌++◌, drop, string_bytes}
use Rattle.std.specs.List.{flat_map}
use Rattle.sl_balance.specs.BalanceText.{line_text}
use Rattle.sl_balance.proofs.text.push_lines.Given as goal

abbrev pub invariant-loop-line : goal.invariant-loop-line
invariant-loop-line l = string_bytes l.out ++ flat_map (line_text l.parts) (drop l.line-index l.lines) ≡ string_bytes l.fn.out ++ flat_map (line_text l.parts) l.lines
