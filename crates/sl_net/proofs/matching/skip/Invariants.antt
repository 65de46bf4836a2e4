use Rattle.std.proofs.Common.{◌≡◌, ◌≤◌, length, drop}
use Rattle.sl_net.specs.Spelling.{skip}
use Rattle.sl_net.proofs.matching.skip.Given as goal

abbrev pub invariant-loop-byte : goal.invariant-loop-byte
invariant-loop-byte l = record {
  within : l.next ≤ length l.text;
  rest : skip l.text (drop l.byte-index l.piece) l.next ≡ skip l.text l.piece l.at;
}
