use Rattle.std.proofs.Common.{◌≡◌, ◌++◌, map}
use Rattle.std.specs.Prelude.{filter}
use Rattle.sl_parts.specs.Parts.{below}
use Rattle.sl_layout.specs.Net.{same_sort, link_of, link_at}
use Rattle.sl_layout.specs.Wiring.{sender_by}
use Rattle.sl_layout.proofs.upstream.add_senders.Given as goal

abbrev pub invariant-loop-link : goal.invariant-loop-link
invariant-loop-link l = l.senders.items ≡ l.fn.senders.items ++ map (sender_by l.listed l.unit) (filter (λ c. same_sort (link_of l.listed (link_at l.listed l.unit c)).sort l.sort) (below l.link-index))
