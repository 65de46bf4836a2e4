use Rattle.std.proofs.Common.{◌≡◌, ◌++◌, drop}
use Rattle.std.specs.Prelude.{filter}
use Rattle.sl_layout.specs.Net.{link_of, same_sort}
use Rattle.sl_report.proofs.channels.add_of_sort.Given as goal

abbrev pub invariant-loop-link : goal.invariant-loop-link
invariant-loop-link l = l.links.items ++ filter (λ k. same_sort (link_of l.net k).sort l.sort) (drop l.link-index l.from) ≡ l.fn.links.items ++ filter (λ k. same_sort (link_of l.net k).sort l.sort) l.from
