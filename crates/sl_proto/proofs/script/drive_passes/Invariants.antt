use Rattle.std.proofs.Common.{Ok}
use Rattle.sl_machine.specs.declared.machine.Memory.{Memory}
use Rattle.sl_model.specs.Schedule.{passes_of}
use Rattle.sl_proto.specs.Calls.{HasDriven}
use Rattle.sl_proto.proofs.script.drive_passes.Given as goal

abbrev pub invariant-loop-done : goal.invariant-loop-done
invariant-loop-done g l = HasDriven {A = Unit {0}} {E = Memory} g.T.Taker.scene g.T.Taker.fixed l.net l.fn.taker (passes_of l.once.entries.items l._done) (Ok tt) l.taker
