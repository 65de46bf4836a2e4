use Rattle.std.proofs.Common.{◌≡◌, take}
use Rattle.sl_model.specs.Books.{schedule_of}
use Rattle.sl_app.proofs.polling.schedule_of.Given as goal

abbrev pub invariant-loop-entry : goal.invariant-loop-entry
invariant-loop-entry l = l.schedule.items ≡ schedule_of (take l.entry-index l.entries)
