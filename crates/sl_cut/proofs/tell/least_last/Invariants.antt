use Rattle.sl_model.specs.History.{last}
use Rattle.std.proofs.Common.{take, ◌≡◌}
use Rattle.std.specs.Prelude.{map, min, reverse}
use Rattle.std.specs.List.{fold}
use Rattle.sl_cut.proofs.tell.least_last.Given as goal

abbrev pub invariant-loop-choice : goal.invariant-loop-choice
invariant-loop-choice l = l.least ≡ fold min l.start (map (λ c. last c (reverse l.steps)) (take l.choice-index l.choices))
