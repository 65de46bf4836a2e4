use Rattle.std.proofs.Common.{◌≡◌, ◌++◌}
use Rattle.sl_model.specs.Schedule.{passes_of}
use Rattle.sl_proto.proofs.schedule.add_passes.Given as goal

abbrev pub invariant-loop-done : goal.invariant-loop-done
invariant-loop-done l = l.entries.items ≡ l.initial.entries.items ++ passes_of l.once l._done
