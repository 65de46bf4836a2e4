use Rattle.std.proofs.Common.{length, take, ◌≡◌}
use Rattle.sl_model.specs.Losses.{losses}
use Rattle.sl_model.specs.Setup.{setup_of}
use Rattle.sl_model.specs.World.{world, IsLegal}
use Rattle.sl_cut.proofs.schedule.follow_legal.Given as goal

abbrev pub invariant-loop-i : goal.invariant-loop-i
invariant-loop-i l = record {
  reached : l.world ≡ world (setup_of l.input) (losses l.input) (take l.i l.schedule);
  actors : length l.world ≡ length l.input.net.actors;
  legal : IsLegal (setup_of l.input) (losses l.input) (take l.i l.schedule);
}
