use Rattle.std.proofs.Common.{◌≡◌, ℕ, ◌<◌, length, get_or}
use Rattle.sl_unit.specs.declared.wires.Entrance.TheVariants.{Other}
use Rattle.sl_unit.proofs.make.early_of.Given as goal

abbrev pub invariant-loop-choice : goal.invariant-loop-choice
invariant-loop-choice l = record { early : (k : ℕ) → k < l.choice → get_or l.early k Other ≡ get_or l.entrances k Other; many : length l.early ≡ 10 }
