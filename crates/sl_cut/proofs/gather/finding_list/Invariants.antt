use Rattle.sl_model.specs.Findings.{finding}
use Rattle.sl_model.specs.Losses.{losses}
use Rattle.std.proofs.Common.{◌≡◌}
use Rattle.std.specs.Prelude.{map}
use Rattle.std.specs.List.{range_with_len}
use Rattle.sl_cut.proofs.gather.finding_list.Given as goal

abbrev pub invariant-loop-done : goal.invariant-loop-done
invariant-loop-done l = l.items.items ≡ map (finding l.input.snapshot.credits l.input.net (losses l.input) l.world) (range_with_len 1 l.done)
