use Rattle.sl_layout.specs.Net.{actor_of, egress, link_of, same_actor}
use Rattle.std.proofs.Common.{take, ◌≡◌}
use Rattle.std.specs.Prelude.{filter}
use Rattle.sl_cut.proofs.units.crossbar_to.Given as goal

abbrev pub invariant-loop-link : goal.invariant-loop-link
invariant-loop-link l = l.links.items ≡ filter (λ k. same_actor (actor_of l.net (link_of l.net k).to) (egress l.device l.port)) (take l.link-index l.link-items)
