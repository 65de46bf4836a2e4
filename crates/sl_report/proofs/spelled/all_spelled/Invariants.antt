use Rattle.std.proofs.Common.{◌≡◌, flat_map, map}
use Rattle.std.specs.List.{All}
use Rattle.sl_parts.specs.Parts.{below}
use Rattle.sl_net.specs.Spelling.{choice_count}
use Rattle.sl_report.specs.Spelled.{IsSpelled, choices_in}
use Rattle.sl_report.proofs.spelled.all_spelled.Given as goal

abbrev pub invariant-loop-actor : goal.invariant-loop-actor
invariant-loop-actor l =
    All (IsSpelled l.net) l.spelled.items
    × (choices_in l.spelled.items ≡ flat_map (λ a. map (λ c. (a, c)) (below (choice_count l.net a))) (below l.actor))
