use Rattle.sl_model.specs.World.{world}
use Rattle.sl_model.proofs.finish_laws.more_fuel_changes_nothing.Goals as goal
use Rattle.sl_model.proofs.Finishing.Fuel.{finish-more}

pub returns : goal.returns
returns c s lost es fs fuel more h q = finish-more s lost fuel more h (world s lost es) fs q
