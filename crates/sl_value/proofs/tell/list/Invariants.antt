use Rattle.std.proofs.Common.{◌≡◌, map}
use Rattle.std.specs.List.{range_with_len}
use Rattle.sl_value.specs.Verdicts.{value_finding}
use Rattle.sl_value.specs.Outcome.{world_after}
use Rattle.sl_value.proofs.tell.list.Given as goal

abbrev pub invariant-loop-done : goal.invariant-loop-done
invariant-loop-done l = l.items.items ≡ map (value_finding l.world.input.net (world_after l.world)) (range_with_len 1 l.done)
