use Rattle.sl_layout.specs.Wiring.{plan_of}
use Rattle.sl_actor.specs.Follows.{ActorView}
use Rattle.sl_actor.specs.Held.{held}
use Rattle.sl_proto.specs.Nodes.{NodeView, node_counts_by}
use Rattle.nodes_tests.proofs.ActorLemmas.{fit_by}
use Rattle.nodes_tests.proofs.actors.actors_of.Goals as goal

pub returns : goal.returns
returns c = fit_by held (λ (v : ActorView _ _). v.counts) (λ (n : NodeView). node_counts_by (λ c. c.counts) n) (plan_of c.args.input.now.net) _ c.in_ok-nodes.nodes.items c.in_ok-make_actors.ensures.counts c.in_ok-nodes.ensures.fit
