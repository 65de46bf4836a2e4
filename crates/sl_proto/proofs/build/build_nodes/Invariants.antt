use Rattle.std.proofs.Common.{◌≡◌, map, None}
use Rattle.std.specs.List.{All}
use Rattle.sl_parts.specs.Parts.{below}
use Rattle.sl_proto.specs.Nodes.{node_state_by, node_counts_by, node_ready_by}
use Rattle.sl_proto.specs.Built.{first_at, counts_at}
use Rattle.sl_proto.proofs.build.build_nodes.Given as goal

abbrev pub invariant-loop-actor : goal.invariant-loop-actor
invariant-loop-actor g l = record {
  states : map (node_state_by g.C.ControlPlane.state) l.nodes.items ≡ map (first_at g.C.ControlPlane.first l.input) (below l.actor);
  counts : map (node_counts_by g.C.ControlPlane.counts) l.nodes.items ≡ map (counts_at l.input.net) (below l.actor);
  ready : All (λ node. node_ready_by g.C.ControlPlane.ready_for node ≡ None) l.nodes.items;
}
