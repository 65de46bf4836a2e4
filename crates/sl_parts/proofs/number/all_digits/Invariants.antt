use Rattle.std.proofs.Common.{◌≡◌, drop}
use Rattle.sl_parts.specs.Number.{all_digits}
use Rattle.sl_parts.proofs.number.all_digits.Given as goal

abbrev pub invariant-loop-byte : goal.invariant-loop-byte
invariant-loop-byte l = all_digits (drop l.byte-index l.text) ≡ all_digits l.text
