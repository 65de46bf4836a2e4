use Rattle.std.proofs.Common.{◌≡◌, map}
use Rattle.sl_parts.specs.Parts.{below}
use Rattle.sl_unit.specs.Made.{entrance_by}
use Rattle.sl_unit.proofs.make.list_entrances.Given as goal

abbrev pub invariant-loop-choice : goal.invariant-loop-choice
invariant-loop-choice l = l.entrances.items ≡ map (entrance_by l.net l.actor) (below l.choice)
