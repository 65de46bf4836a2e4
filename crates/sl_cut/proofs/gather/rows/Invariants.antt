use Rattle.sl_model.specs.Findings.{row}
use Rattle.sl_model.specs.Losses.{losses}
use Rattle.std.proofs.Common.{take, ◌≡◌}
use Rattle.std.specs.Prelude.{map}
use Rattle.sl_cut.proofs.gather.rows.Given as goal

abbrev pub invariant-loop-unit : goal.invariant-loop-unit
invariant-loop-unit l = l.items.items ≡ map (row l.input.net (losses l.input) l.world l.snapshot) (take l.unit-index l.units)
