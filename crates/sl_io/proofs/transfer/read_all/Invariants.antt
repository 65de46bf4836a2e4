use Rattle.std.proofs.Common.{◌≡◌, ◌≤◌, ◌-◌, length, vec_len}
use Rattle.std.specs.Io.KnownBytes.{Consumes}
use Rattle.sl_io.specs.Pieces.{TellsAsBefore}
use Rattle.sl_io.proofs.transfer.read_all.Given as goal

abbrev pub invariant-loop-chunk : goal.invariant-loop-chunk
invariant-loop-chunk g l = record {
  bound : vec_len l.bytes ≤ l.limit;
  room : length l.chunk ≡ 4096;
  never_falls : g.S.Source.faults l.initial.source ≤ g.S.Source.faults l.source;
  tells : TellsAsBefore (g.S.Source.left l.initial.source) (g.S.Source.left l.source);
  taken : Consumes (g.S.Source.left l.initial.source) (g.S.Source.left l.source) l.bytes.items;
}

abbrev pub decreases-loop-chunk : goal.decreases-loop-chunk
decreases-loop-chunk g l = l.limit - vec_len l.bytes
