use Rattle.sl_model.specs.History.{put}
use Rattle.std.proofs.Common.{take, ◌≡◌}
use Rattle.std.specs.Prelude.{reverse}
use Rattle.sl_cut.proofs.tell.put.Given as goal

abbrev pub invariant-loop-step : goal.invariant-loop-step
invariant-loop-step l = l.messages.items ≡ put l.link (reverse (take l.step-index l.steps))
