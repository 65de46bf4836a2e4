use Rattle.std.proofs.Common.{◌≡◌, ◌++◌, drop, string_bytes}
use Rattle.std.specs.List.{flat_map}
use Rattle.sl_poll.specs.PollText.{read_line}
use Rattle.sl_poll.proofs.text.push_reads.Given as goal

abbrev pub invariant-loop-read : goal.invariant-loop-read
invariant-loop-read l = string_bytes l.out ++ flat_map (read_line l.net) (drop l.read-index l.reads) ≡ string_bytes l.fn.out ++ flat_map (read_line l.net) l.reads
