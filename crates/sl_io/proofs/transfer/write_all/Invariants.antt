use Rattle.std.proofs.Common.{◌≤◌, ◌-◌, length, take}
use Rattle.std.specs.Io.KnownBytes.{Appends}
use Rattle.sl_io.specs.Pieces.{TellsAsBefore}
use Rattle.sl_io.proofs.transfer.write_all.Given as goal

abbrev pub invariant-loop-start : goal.invariant-loop-start
invariant-loop-start g l = record {
  bound : l.start ≤ length l.piece;
  never_falls : g.S.Sink.faults l.initial.sink ≤ g.S.Sink.faults l.sink;
  tells : TellsAsBefore (g.S.Sink.written l.initial.sink) (g.S.Sink.written l.sink);
  appended : Appends (g.S.Sink.written l.initial.sink) (g.S.Sink.written l.sink) (take l.start l.piece);
}

abbrev pub decreases-loop-start : goal.decreases-loop-start
decreases-loop-start g l = length l.piece - l.start
