use Rattle.sl_model.specs.Losses.{losses}
use Rattle.sl_model.specs.Setup.{setup_of}
use Rattle.sl_model.proofs.Finishing.Endings.{first_idle}
use Rattle.sl_cut.proofs.ending.ending_of.Goals as goal

pub returns-then-front-schedule : goal.returns-then-front-schedule
returns-then-front-schedule c = first_idle (setup_of c.args.input.now) (losses c.args.input.now) c.args.schedule.now c.in_ok-world.front c.in_ok-world.world
    c.if-front-schedule.true c.in_ok-world.ensures.legal c.in_ok-world.ensures.world c.in_ok-world.ensures.idle
