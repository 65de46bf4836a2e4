use Rattle.std.proofs.Common.{◌≡◌, ◌++◌}
use Rattle.std.specs.Prelude.{filter}
use Rattle.sl_parts.specs.Parts.{below}
use Rattle.sl_layout.specs.Net.{same_sort, link_of, link_at}
use Rattle.sl_unit.proofs.make.add_choices.Given as goal

abbrev pub invariant-loop-choice : goal.invariant-loop-choice
invariant-loop-choice l = l.choices.items ≡ l.fn.choices.items ++ filter (λ c. same_sort (link_of l.net (link_at l.net l.actor c)).sort l.sort) (below l.choice)
