use Rattle.sl_model.specs.World.{world}
use Rattle.sl_check.proofs.SettledPass.{ended_well, finished_well}
use Rattle.sl_check.proofs.laws.worlds_finish_well.Goals as goal

pub returns-clause-finished : goal.returns-clause-finished
returns-clause-finished c = λ s lost es net table settled.
    ended_well s lost (world s lost es) settled (c.polled_units_are_known.ensures.known s lost es net table settled.taken_all)

pub returns-clause-only : goal.returns-clause-only
returns-clause-only c = λ s lost es net table finished.
    finished_well s lost (world s lost es) (c.polled_units_are_known.ensures.only s lost es net table finished.settled.taken_all) finished
