use Rattle.std.proofs.Common.{◌≡◌, take}
use Rattle.sl_model.specs.Schedule.{expand}
use Rattle.sl_proto.proofs.schedule.expand.Given as goal

abbrev pub invariant-loop-line : goal.invariant-loop-line
invariant-loop-line l = l.entries.items ≡ expand l.net (take l.line-index l.script)
