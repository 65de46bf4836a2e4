use Rattle.std.proofs.Common.{◌≡◌}
use Rattle.std.specs.Prelude.{filter}
use Rattle.sl_parts.specs.Parts.{below}
use Rattle.sl_layout.specs.Net.{link_of, same_sort}
use Rattle.sl_model.specs.Words.{weigh}
use Rattle.sl_model.specs.Findings.{lost_on}
use Rattle.sl_model.specs.Losses.{losses}
use Rattle.sl_cut.proofs.lost.lost_of.Given as goal

abbrev pub invariant-loop-link : goal.invariant-loop-link
invariant-loop-link l = l.total ≡ weigh (lost_on l.input.net (losses l.input) l.world) (filter (λ k. same_sort (link_of l.input.net k).sort l.sort) (below l.link))
