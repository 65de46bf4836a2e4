use Rattle.sl_layout.specs.Net.{link_of, same_sort}
use Rattle.sl_parts.specs.Parts.{below}
use Rattle.std.proofs.Common.{◌≡◌}
use Rattle.std.specs.Prelude.{filter, slice_index_or}
use Rattle.sl_net.proofs.choices.choices_of.Given as goal

abbrev pub invariant-loop-choice : goal.invariant-loop-choice
invariant-loop-choice l = l.choices.items ≡ filter (λ k. same_sort (link_of l.net (slice_index_or l.links k 0)).sort l.sort) (below l.choice)
