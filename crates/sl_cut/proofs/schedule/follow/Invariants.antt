use Rattle.sl_model.specs.Losses.{losses}
use Rattle.sl_model.specs.Setup.{setup_of}
use Rattle.sl_model.specs.World.{world}
use Rattle.std.proofs.Common.{length, take, ◌≡◌}
use Rattle.sl_cut.proofs.schedule.follow.Given as goal

abbrev pub invariant-loop-actor : goal.invariant-loop-actor
invariant-loop-actor l = record { reached : l.world ≡ world (setup_of l.input) (losses l.input) (take l.actor-index l.schedule); actors : length l.world ≡ length l.input.net.actors }
