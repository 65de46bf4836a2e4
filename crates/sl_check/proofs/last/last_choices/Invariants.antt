use Rattle.std.proofs.Common.{◌≡◌, drop}
use Rattle.sl_check.specs.Polled.{choose_all, last_choices}
use Rattle.sl_check.proofs.last.last_choices.Given as goal

abbrev pub invariant-loop-actor : goal.invariant-loop-actor
invariant-loop-actor l = choose_all l.last.items (drop l.actor-index l.schedule) ≡ last_choices l.actors l.schedule
