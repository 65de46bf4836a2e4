use Rattle.std.proofs.Common.{◌≡◌, ◌≤◌, length}
use Rattle.sl_saves.specs.Keeping.{entries_credited}
use Rattle.sl_saves.proofs.Lists.{first_credited}
use Rattle.sl_saves.proofs.entries.credit_entries.Given as goal

abbrev pub invariant-loop-left : goal.invariant-loop-left
invariant-loop-left l = record {
  inside : l.place ≤ length l.entries;
  rest : first_credited l.left (record { channel = l.channel; age = l.age; bytes = l.bytes }) l.place l.entries
      ≡ entries_credited l.credits (record { channel = l.channel; age = l.age-2; bytes = l.bytes }) l.fn.entries;
}

abbrev pub decreases-loop-left : goal.decreases-loop-left
decreases-loop-left l = l.left
