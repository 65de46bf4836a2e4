use Rattle.std.proofs.Common.{arith}
use Rattle.sl_model.specs.History.{history, id, last}
use Rattle.sl_model.specs.World.{world}
use Rattle.sl_simulation.proofs.units.stamps_are_read.Goals as goal

pub returns-clause-stamp : goal.returns-clause-stamp
returns-clause-stamp c s bits lost es e i step j net few q n t =
    let h = history (world s lost es) e.0 in let w = c.stamps_are_in_window.ensures s lost es e i step j net q n t in let b = w.ahead in
    record { order = w.order; near = omega (arith, b, few); told = c.distances_are_differences.ensures bits (last step.choice h) j w.order (omega (arith, b, few)) }

pub returns-clause-id : goal.returns-clause-id
returns-clause-id c s bits lost es e i step j net few q n t =
    let h = history (world s lost es) e.0 in let w = c.stamps_are_in_window.ensures s lost es e i step j net q n t in let b = w.lag in
    record { order = w.behind; near = omega (arith, b, few); told = c.distances_are_differences.ensures bits (last step.choice h) (id h) w.behind (omega (arith, b, few)) }
