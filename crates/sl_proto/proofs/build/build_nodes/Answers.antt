use Rattle.std.proofs.Common.{◌≡◌, None, length, map, subst, sym, ap, ◌∙◌, arith}
use Rattle.std.specs.List.{All}
use Rattle.std.proofs.lemmas.List.Elements.{All-push}
use Rattle.sl_parts.specs.Parts.{below}
use Rattle.sl_net.specs.Input.{Input}
use Rattle.sl_proto.specs.Nodes.{node_state_by, node_counts_by, node_ready_by}
use Rattle.sl_proto.specs.Built.{first_at, counts_at}
use Rattle.sl_proto.proofs.Counts.{fits_of, one-more}
use Rattle.sl_proto.proofs.build.build_nodes.Goals as goal

pub loop-actor-preserved : goal.loop-actor-preserved
loop-actor-preserved g c =
    let input = c.args.input.now in
    let plane = g.C.ControlPlane in
    let nodes = c.loop-actor.nodes.items in
    let node = c.in_ok-node.node in
    let so_far = c.loop-actor.invariant in
    let made = c.in_ok-node.ensures in
    let pushed = c.in_ok-push.ensures.items in record {
      states = one-more (node_state_by plane.state) (first_at plane.first input) c.loop-actor.actor nodes _ node pushed so_far.states made.state;
      counts = one-more (node_counts_by plane.counts) (counts_at input.net) c.loop-actor.actor nodes _ node pushed so_far.counts made.counts;
      ready = subst (All (λ node. node_ready_by plane.ready_for node ≡ None)) (sym pushed) (All-push (λ node. node_ready_by plane.ready_for node ≡ None) nodes node so_far.ready made.ready);
    }

pub returns-clause-states : goal.returns-clause-states
returns-clause-states g c =
    let input = c.args.input.now in
    let all : c.loop-actor.actor ≡ length c.actors-actor-end.result.now = omega (arith, c.loop-actor.auto.actor-end, c.loop-actor-test.false) in
    c.loop-actor.invariant.states ∙ ap (λ n. map (first_at g.C.ControlPlane.first input) (below n)) (all ∙ ap length (c.actors-actor-end.ensures.now ∙ ap (λ (i : Input). i.net.actors) c.input.view_is))

pub returns-clause-fit : goal.returns-clause-fit
returns-clause-fit g c =
    let net = c.args.input.now.net in
    let all : c.loop-actor.actor ≡ length c.actors-actor-end.result.now = omega (arith, c.loop-actor.auto.actor-end, c.loop-actor-test.false) in
    fits_of (node_counts_by g.C.ControlPlane.counts) net c.loop-actor.nodes.items
    (c.loop-actor.invariant.counts ∙ ap (λ n. map (counts_at net) (below n)) (all ∙ ap length (c.actors-actor-end.ensures.now ∙ ap (λ (i : Input). i.net.actors) c.input.view_is)))

pub returns-clause-ready : goal.returns-clause-ready
returns-clause-ready g c = c.loop-actor.invariant.ready
