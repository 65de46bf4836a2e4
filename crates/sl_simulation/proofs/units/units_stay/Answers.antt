use Rattle.std.proofs.Common.{subst, sym}
use Rattle.sl_model.specs.World.{world}
use Rattle.sl_simulation.specs.UnitImage.{IsUnitOf}
use Rattle.sl_simulation.proofs.units.units_stay.Goals as goal

pub returns : goal.returns
returns c s table lost es u i e state ne h = subst (λ g. IsUnitOf s.net table u i g state) (sym (c.worlds_take_turns.ensures.others s lost (world s lost es) e u ne)) h
