use Rattle.std.proofs.Common.{◌≡◌, ◌<◌, ◌++◌, ◌∷◌, [], None, length, get_or, map, sym, ap, subst, ◌∙◌, zero-add}
use Rattle.std.specs.List.{All}
use Rattle.std.proofs.lemmas.List.{get_or_read}
use Rattle.std.proofs.lemmas.List.Elements.{All-same}
use Rattle.std.proofs.lemmas.List.FromFn.{map-range_with_len_more}
use Rattle.sl_parts.specs.Parts.{below}
use Rattle.sl_route.specs.declared.neighbours.Neighbour.{Neighbour}
use Rattle.sl_route.specs.Graph.{neighbours_at, port_toward}
use Rattle.sl_route.proofs.ways.ports_toward.Goals as goal

pub port_toward-requires : goal.port_toward-requires
port_toward-requires c =
    let g = c.args.table.now in
    let d = c.loop-device.device in
    let row : c.as_slice.result.now ≡ neighbours_at g d = c.as_slice.ensures.value ∙ c.neighbours.view_is ∙ get_or_read g d _ c.loop-device-test.true c.index-table-device.is [] in
    All-same (λ (k : Neighbour). k.device < length c.args.far.now) _ _ row (subst (λ m. All (λ (k : Neighbour). k.device < m) (neighbours_at g d)) (sym c.requires.size) (c.requires.graph.near d))

pub loop-device-preserved : goal.loop-device-preserved
loop-device-preserved c =
    let g = c.args.table.now in
    let far = c.args.far.now in
    let own = c.args.own in
    let d = c.loop-device.device in
    let row : c.as_slice.result.now ≡ neighbours_at g d = c.as_slice.ensures.value ∙ c.neighbours.view_is ∙ get_or_read g d _ c.loop-device-test.true c.index-table-device.is [] in
    c.in_ok-push.ensures.items ∙ ap (λ ports. ports ++ c.port_toward.result ∷ []) c.loop-device.invariant
    ∙ ap (λ port. map (λ d. port_toward own far (neighbours_at g d) (get_or far d None)) (below d) ++ port ∷ []) (c.port_toward.ensures ∙ ap (λ ks. port_toward own far ks (get_or far d None)) row)
    ∙ sym (map-range_with_len_more (λ d. port_toward own far (neighbours_at g d) (get_or far d None)) 0 d _ (zero-add d))
