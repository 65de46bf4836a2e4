use Rattle.std.proofs.Common.{◌≡◌, ◌++◌, ◌∷◌, [], length, get_or, map, sym, ap, subst, ◌∙◌, arith, zero-add}
use Rattle.std.specs.Prelude.{None}
use Rattle.std.proofs.lemmas.List.FromFn.{length-map-range_with_len, map-range_with_len_more}
use Rattle.sl_parts.specs.Parts.{Parts, below}
use Rattle.sl_route.specs.Graph.{neighbours_of, neighbours_at, IsGraph, IsFar, port_toward}
use Rattle.sl_route.specs.Routes.{ways_of}
use Rattle.sl_route.proofs.Graphs.{graph_of, is-graph}
use Rattle.sl_route.proofs.Toward.{host-at, is-host, ways-are}
use Rattle.sl_route.proofs.routes.all_ways.Goals as goal

pub ways_to-requires-clause-graph : goal.ways_to-requires-clause-graph
ways_to-requires-clause-graph c = let table : c.deref.result.now ≡ graph_of c.args.parts.now = c.deref.ensures.value ∙ c.in_ok-table.ensures in subst IsGraph (sym table) (is-graph c.args.parts.now c.requires)

pub ways_to-requires-clause-device : goal.ways_to-requires-clause-device
ways_to-requires-clause-device c =
    let parts = c.args.parts.now in
    let host = is-host parts _ _ _ c.requires (c.deref-host-items.ensures.value ∙ ap (λ (p : Parts). p.hosts) c.parts.view_is) c.loop-host-test.true c.host-item.is in
    omega (arith, host.port.device, ap length (c.deref.ensures.value ∙ c.in_ok-table.ensures), length-map-range_with_len (neighbours_of parts) 0 (length parts.devices))

pub loop-host-preserved : goal.loop-host-preserved
loop-host-preserved c =
    let parts = c.args.parts.now in
    let i = c.loop-host.host-index in
    let h = c.host-item.result in
    let host = is-host parts _ i h c.requires (c.deref-host-items.ensures.value ∙ ap (λ (p : Parts). p.hosts) c.parts.view_is) c.loop-host-test.true c.host-item.is in
    let table : c.deref.result.now ≡ graph_of parts = c.deref.ensures.value ∙ c.in_ok-table.ensures in
    let w = c.in_ok-ways_to.field-0 in
    let is_way : w ≡ ways_of parts i = ways-are parts i h.at w c.requires (host-at parts.hosts i h host.within host.is) host.port.device
    (subst (λ g. IsFar g h.at.device w.hops) table c.in_ok-ways_to.ensures.hops)
    (c.in_ok-ways_to.ensures.ports ∙ ap (λ g. map (λ d. port_toward h.at.port w.hops (neighbours_at g d) (get_or w.hops d None)) (below (length g))) table) in
    c.in_ok-push.ensures.items ∙ ap (λ ways. ways ++ w ∷ []) c.loop-host.invariant ∙ ap (λ w. map (ways_of parts) (below i) ++ w ∷ []) is_way ∙ sym (map-range_with_len_more (ways_of parts) 0 i _ (zero-add i))
