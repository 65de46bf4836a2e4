use Rattle.sl_layout.specs.Net.{link_of, same_sort}
use Rattle.std.proofs.Common.{take, ◌≡◌}
use Rattle.std.specs.Prelude.{filter}
use Rattle.sl_cut.proofs.wires.links_out.Given as goal

abbrev pub invariant-loop-link : goal.invariant-loop-link
invariant-loop-link l = l.links.items ≡ filter (λ k. same_sort (link_of l.net k).sort l.sort) (take l.link-index l.link-items)
