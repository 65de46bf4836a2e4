use Rattle.std.proofs.Common.{◌≡◌, ◌+◌, ◌<◌, [], get_or, length, take, sym, subst, ◌∙◌}
use Rattle.std.specs.Prelude.{◌==◌}
use Rattle.std.specs.List.{All, list_any}
use Rattle.std.proofs.lemmas.List.{get_or_read}
use Rattle.std.proofs.lemmas.List.Elements.{All-same}
use Rattle.std.proofs.lemmas.List.Folds.{list_any_more}
use Rattle.sl_route.specs.declared.neighbours.Neighbour.{Neighbour}
use Rattle.sl_route.specs.Graph.{neighbours_at, leads, Finds}
use Rattle.sl_route.proofs.Finding.{finds-more}
use Rattle.sl_route.proofs.search.advance.Goals as goal

pub find_neighbours-requires : goal.find_neighbours-requires
find_neighbours-requires c =
    let g = c.args.table.now in
    let x = get_or c.args.last.now c.loop-device.device-index 0 in
    let within : x < length g = c.requires.near c.loop-device.device-index 0 c.loop-device-test.true in
    let row : c.as_slice.result.now ≡ neighbours_at g x = c.as_slice.ensures.value ∙ c.neighbours.view_is ∙ get_or_read g x _ within c.index-table-device.is [] in
    All-same (λ (k : Neighbour). k.device < length c.loop-device.far.items) _ _ row
    (subst (λ m. All (λ (k : Neighbour). k.device < m) (neighbours_at g x)) (sym (c.loop-device.invariant.size ∙ c.requires.size)) (c.requires.graph.near x))

pub loop-device-preserved : goal.loop-device-preserved
loop-device-preserved c =
    let g = c.args.table.now in
    let i = c.loop-device.device-index in
    let x = get_or c.args.last.now i 0 in
    let within : x < length g = c.requires.near i 0 c.loop-device-test.true in
    let row : c.as_slice.result.now ≡ neighbours_at g x = c.as_slice.ensures.value ∙ c.neighbours.view_is ∙ get_or_read g x _ within c.index-table-device.is [] in
    finds-more c.args.hops (λ d. list_any (λ x. leads g x d) (take i c.args.last.now)) (λ d. leads g x d) (λ d. list_any (λ x. leads g x d) (take (i + 1) c.args.last.now))
    _ _ _ _ _ _ c.loop-device.invariant (subst (λ ks. Finds c.args.hops (λ d. list_any (λ (k : Neighbour). k.device == d) ks) c.loop-device.far.items c.find_neighbours.new.far.items c.loop-device.found.items c.find_neighbours.new.found.items) row c.in_ok-find_neighbours.ensures)
    (λ d. list_any_more (λ x. leads g x d) c.args.last.now i 0 c.loop-device-test.true)
