use Rattle.std.proofs.Common.{◌≡◌, ◌≤◌, drop}
use Rattle.sl_read.specs.Choices.{entries_of}
use Rattle.sl_read.proofs.RowLemmas.{with_front}
use Rattle.sl_read.proofs.choices.read_entries.Given as goal

abbrev pub invariant-loop-index : goal.invariant-loop-index
invariant-loop-index l = record {
  entries : with_front l.found.items (entries_of l.net l.index l.used (drop l.index l.texts)) ≡ entries_of l.net 0 0 l.texts;
  few : l.used ≤ 10000;
}
