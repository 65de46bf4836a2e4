use Rattle.sl_layout.specs.Net.{link_of}
use Rattle.std.proofs.Common.{take, ◌≡◌}
use Rattle.std.specs.Prelude.{filter, slice_index_or, ◌==◌}
use Rattle.sl_net.proofs.choices.choice_from.Given as goal

abbrev pub invariant-loop-choice : goal.invariant-loop-choice
invariant-loop-choice l = l.found.items ≡ filter (λ k. (link_of l.net (slice_index_or l.links k 0)).from == l.unit) (take l.choice-index l.choice-items)
