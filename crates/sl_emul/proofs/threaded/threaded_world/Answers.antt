use Rattle.std.proofs.Common.{◌≡◌, ℕ, ◌^◌, ◌<◌, List, Vec, Global, length, map, sym, subst, ap, ◌∙◌, arith, rules}
use Rattle.std.proofs.lemmas.List.{length-map}
use Rattle.std.proofs.lemmas.Result.{IfOk-weaker}
use Rattle.std.proofs.lemmas.List.FromFn.{length-map-range_with_len}
use Rattle.sl_machine.specs.Machine.{Counts}
use Rattle.sl_machine.specs.Plan.{Plan, IsSound}
use Rattle.sl_machine.specs.Fit.{Fits, HasCounts}
use Rattle.sl_layout.specs.Net.{Net, links_into, link_numbers}
use Rattle.sl_layout.specs.Wiring.{plan_of, wired_link}
use Rattle.sl_net.specs.Input.{Input}
use Rattle.sl_model.specs.Losses.{losses, loss_on}
use Rattle.sl_model.specs.Setup.{setup_of}
use Rattle.sl_model.specs.Books.{schedule_of}
use Rattle.sl_world.specs.World.{scene}
use Rattle.sl_threads.specs.Threads.{ArePlans}
use Rattle.sl_proto.specs.Nodes.{NodeView, node_state, node_counts_by}
use Rattle.sl_proto.specs.Standing.{case_of, scene_of, AreNewLosses}
use Rattle.sl_emul.specs.Threaded.{plans_of}
use Rattle.sl_emul.proofs.Plans.{plans-fit, no-sweeps, no-resends}
use Rattle.sl_emul.proofs.Clocks.{clocks-are}
use Rattle.sl_emul.proofs.Come.{has-come}
use Rattle.sl_emul.proofs.Standing.{below40, first-nodes, stands-by-run, has-observer}
use Rattle.sl_emul.proofs.Rested.{rested}
use Rattle.sl_emul.proofs.threaded.threaded_world.Goals as goal

abbrev node_counts : NodeView → Counts
node_counts = node_counts_by (λ c. c.counts)

pub run_machines-world-requires-clause-fit : goal.run_machines-world-requires-clause-fit
run_machines-world-requires-clause-fit g c =
    let i = c.args.input.now in
    let plan : c.wiring-wiring.result.now ≡ plan_of i.net = c.wiring-wiring.ensures.now ∙ ap (λ (i : Input). plan_of i.net) c.input.view_is in
    let fit : Fits node_counts c.wiring-wiring.result.now c.in_ok-nodes.nodes.items c.in_ok-losses.losses.items = record {
      sound = c.wiring-wiring.ensures.sound;
      machines_fit = subst (λ (p : Plan). HasCounts node_counts p c.in_ok-nodes.nodes.items) (sym plan) c.in_ok-nodes.ensures.fit;
      losses_fit = c.in_ok-losses.ensures.each ∙ sym (length-map-range_with_len (wired_link i.net) 0 (length i.net.links)) ∙ sym (ap (λ (p : Plan). length p.links) plan);
    } in
    search (rules, fit)

pub run_machines-world-requires-clause-plans : goal.run_machines-world-requires-clause-plans
run_machines-world-requires-clause-plans g c =
    let i = c.args.input.now in
    let plans : map (λ (p : Vec ℕ Global). p.items) c.in_ok-plans.plans.items ≡ plans_of i.net = c.in_ok-plans.ensures ∙ ap (λ (i : Input). plans_of i.net) c.input.view_is in
    let fit : ArePlans (map node_counts c.in_ok-nodes.nodes.items) (map (λ (p : Vec ℕ Global). p.items) c.in_ok-plans.plans.items) =
    subst (ArePlans (map node_counts c.in_ok-nodes.nodes.items)) (sym plans) (plans-fit node_counts i.net c.in_ok-nodes.nodes.items c.in_ok-nodes.ensures.fit) in
    search (rules, fit)

-- there is a node for each actor
node-each : (net : Net) (nodes : List NodeView) → HasCounts node_counts (plan_of net) nodes → length nodes ≡ length net.actors
node-each net nodes fit = sym (length-map nodes (λ a. (node_counts a).ins)) ∙ ap length fit.ins_are ∙ length-map-range_with_len (λ a. length (links_into net a)) 0 (length net.actors)

pub run_machines-world-requires-clause-few : goal.run_machines-world-requires-clause-few
run_machines-world-requires-clause-few g c = omega (arith, node-each c.args.input.now.net c.in_ok-nodes.nodes.items c.in_ok-nodes.ensures.fit, c.requires.few)

pub returns : goal.returns
returns g c =
    let i = c.args.input.now in
    let x = case_of i (losses i) in
    let plan : c.wiring-wiring.result.now ≡ plan_of i.net = c.wiring-wiring.ensures.now ∙ ap (λ (i : Input). plan_of i.net) c.input.view_is in
    let sound : IsSound (plan_of i.net) = subst IsSound plan c.wiring-wiring.ensures.sound in
    let plans : map (λ (p : Vec ℕ Global). p.items) c.in_ok-plans.plans.items ≡ plans_of i.net = c.in_ok-plans.ensures ∙ ap (λ (i : Input). plans_of i.net) c.input.view_is in
    let can = c.inputs_are_runnable.ensures i (losses i) c.requires.can sound (c.inputs_spare_reliable_links.ensures i) in
    let ls = map (loss_on i) (link_numbers i.net) in
    let new : AreNewLosses i.net (losses i) ls = subst (AreNewLosses i.net (losses i)) c.in_ok-losses.ensures.losses (record { each = c.in_ok-losses.ensures.each; go = c.in_ok-losses.ensures.go }) in
    let f = first-nodes i (losses i) ls can c.requires.can.snapshot (c.nodes_start.ensures.each i) c.nodes_start.ensures.stand new in
    let e = c.run_machines-world.ensures in
    let only = c.every_schedule.ensures.only in
    let law = c.nodes_stand_for_histories.ensures in
    let come = has-come i c.wiring-wiring.result.now (map node_state c.in_ok-nodes.nodes.items) c.in_ok-losses.losses.items (map (λ (p : Vec ℕ Global). p.items) c.in_ok-plans.plans.items)
    plan c.in_ok-nodes.ensures.states c.in_ok-losses.ensures.losses plans c.run_machines-world.result (λ w. scene w) e.run e.numbers e.order e.plan e.short e.chosen e.rest in
    record {
      stands = IfOk-weaker c.run_machines-world.result _ _ (λ w h. stands-by-run x f (scene w) only h.run law.image law.only (below40 _ h.short)) come;
      observer = IfOk-weaker c.run_machines-world.result _ _ (λ w h. has-observer x f (scene w) only h.run
          (c.nodes_follow_their_books.ensures.observer (scene_of f) (schedule_of (scene w).book) (c.nodes_stand_at_first.ensures.observer i ls c.requires.can.net))) come;
      plan = IfOk-weaker c.run_machines-world.result _ _ (λ w h. h.plan) come;
      front = IfOk-weaker c.run_machines-world.result _ _ (λ w h. record {
        no_sweep = no-sweeps i.net (scene w).book h.planned;
        no_resend = no-resends i.net (scene w).book h.planned;
        order = h.order;
        numbers = h.numbers ∙ clocks-are x f (c.nets_have_ways.ensures i.net) c.worlds_take_turns.ensures law.image (schedule_of (scene w).book) h.run.world
            (subst (λ (n : ℕ). n < 2 ^ 40) (sym (length-map (scene w).book _)) (below40 _ h.short)) (stands-by-run x f (scene w) only h.run law.image law.only (below40 _ h.short)).legal h.run.run;
      }) come;
      rest = IfOk-weaker c.run_machines-world.result _ _ (λ w h few. rested x (scene w) (stands-by-run x f (scene w) only h.run law.image law.only (below40 _ h.short)) (below40 _ h.short)
          (c.nodes_follow.ensures (setup_of i) i.snapshot (losses i) can) (h.rest few)) come;
      passed = IfOk-weaker c.run_machines-world.result _ _ (λ w h few actor low. h few actor (subst (λ n. actor < n) (sym (node-each i.net c.in_ok-nodes.nodes.items c.in_ok-nodes.ensures.fit)) low)) e.passed;
    }
