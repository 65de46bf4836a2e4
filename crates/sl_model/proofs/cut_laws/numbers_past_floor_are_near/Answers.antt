use Rattle.std.proofs.Common.{arith}
use Rattle.sl_model.proofs.cut_laws.numbers_past_floor_are_near.Goals as goal
use Rattle.sl_model.proofs.Cuts.Collected.{in-window}

pub returns : goal.returns
returns c s lost es a k ring n r p = let x = in-window s lost es (c.nets_are_wired.ensures s.net n) in omega (arith, x.ids a, x.within, r, p)
