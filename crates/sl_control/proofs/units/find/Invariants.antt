use Rattle.std.proofs.Common.{◌≡◌, take}
use Rattle.std.specs.List.{AllByRecursion}
use Rattle.sl_control.specs.Joined.{choices_of}
use Rattle.sl_control.proofs.units.find.Given as goal

abbrev pub invariant-loop-place : goal.invariant-loop-place
invariant-loop-place l = AllByRecursion (λ y. y ≡ l.choice → ⊥) (choices_of l.sent (take l.place l.units))
