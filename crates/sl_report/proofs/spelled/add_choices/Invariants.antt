use Rattle.std.proofs.Common.{◌≡◌, ◌++◌, map}
use Rattle.std.specs.List.{All}
use Rattle.sl_parts.specs.Parts.{below}
use Rattle.sl_report.specs.Spelled.{IsSpelled, choices_in}
use Rattle.sl_report.proofs.spelled.add_choices.Given as goal

abbrev pub invariant-loop-choice : goal.invariant-loop-choice
invariant-loop-choice l =
    (All (IsSpelled l.net) l.fn.spelled.items → All (IsSpelled l.net) l.spelled.items)
    × (choices_in l.spelled.items ≡ choices_in l.fn.spelled.items ++ map (λ c. (l.actor, c)) (below l.choice))
