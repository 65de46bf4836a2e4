use Rattle.std.proofs.Common.{◌≡◌, map, take}
use Rattle.sl_layout.specs.Net.{units}
use Rattle.sl_model.specs.History.{history}
use Rattle.sl_value.specs.Counted.{counted}
use Rattle.sl_value.specs.Outcome.{world_after}
use Rattle.sl_value.proofs.tell.values.Given as goal

abbrev pub invariant-loop-unit : goal.invariant-loop-unit
invariant-loop-unit l = l.items.items ≡ map (λ u. counted l.k (history (world_after l.world) u)) (take l.unit (units l.world.input.net))
