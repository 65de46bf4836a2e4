use Rattle.std.proofs.Common.{Ok, take}
use Rattle.sl_machine.specs.declared.machine.Memory.{Memory}
use Rattle.sl_model.specs.Schedule.{expand}
use Rattle.sl_proto.specs.Calls.{HasDriven}
use Rattle.sl_proto.proofs.script.drive_script.Given as goal

abbrev pub invariant-loop-entry : goal.invariant-loop-entry
invariant-loop-entry g l = HasDriven {A = Unit {0}} {E = Memory} g.T.Taker.scene g.T.Taker.fixed l.net l.fn.taker (expand l.net (take l.entry-index l.script)) (Ok tt) l.taker
