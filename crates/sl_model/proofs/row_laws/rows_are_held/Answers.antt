use Rattle.std.proofs.Common.{arith, refl}
use Rattle.sl_saves.proofs.Held.{held-fitting}
use Rattle.sl_model.specs.History.{history, first}
use Rattle.sl_model.specs.World.{world}
use Rattle.sl_model.proofs.Worlds.Steps.{history_size}
use Rattle.sl_model.proofs.Lists.Sizes.{world_size}
use Rattle.sl_model.specs.Rows.{row}
use Rattle.sl_model.proofs.Saved.Fits.{fits-row, first-le, first-short}
use Rattle.sl_model.proofs.Worlds.Passing.{all-short}
use Rattle.sl_model.proofs.row_laws.rows_are_held.Goals as goal

pub returns : goal.returns
returns c s lost es cs u k n t l = let w = world s lost es in let h = history w u in
    held-fitting (row s.credits cs k (first n h)) (fits-row s.credits cs k (first n h) (first-short n h (all-short s lost es u t)) (omega (arith, l, first-le n h, history_size w u, world_size s lost w es refl)))
