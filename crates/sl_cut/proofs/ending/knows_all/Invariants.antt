use Rattle.std.proofs.Common.{◌≡◌, ℕ, ◌<◌, get_or, length}
use Rattle.sl_layout.specs.Net.{units, unit_place}
use Rattle.sl_model.specs.History.{history}
use Rattle.sl_model.specs.Knowledge.{observer, known}
use Rattle.sl_cut.proofs.ending.knows_all.Given as goal

abbrev pub invariant-loop-unit : goal.invariant-loop-unit
invariant-loop-unit l = (k : ℕ) → k < l.unit-index
    → known (unit_place l.net (get_or (units l.net) k 0)) (observer l.world) ≡ length (history l.world (get_or (units l.net) k 0))
