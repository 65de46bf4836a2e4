use Rattle.std.proofs.Common.{◌≡◌, ◌++◌, ◌∷◌, [], ap, ◌∙◌, append_assoc, get_or, map}
use Rattle.std.specs.Prelude.{cond, filter}
use Rattle.sl_parts.specs.Parts.{below}
use Rattle.sl_layout.specs.Net.{same_sort, link_of, link_at, links_into, unit_place}
use Rattle.sl_layout.specs.Wiring.{sender_by}
use Rattle.sl_layout.proofs.Grouping.{sender_noted}
use Rattle.sl_layout.proofs.upstream.add_senders.Goals as goal

pub loop-link-preserved : goal.loop-link-preserved
loop-link-preserved c =
    let net = c.args.listed.now in
    let u = c.args.unit in
    let i = c.loop-link.link-index in
    let l = get_or c.links_into-link-items.result.now i 0 in
    let before = c.args.senders.now.items in
    let so_far = map (sender_by net u) (filter (λ c'. same_sort (link_of net (link_at net u c')).sort c.args.sort) (below i)) in
    let part : c.link-part.result ≡ link_of net l = c.link-part.ensures.link ∙ ap (λ n. link_of n l) c.wires-wires.ensures in
    c.in_ok-push_if.ensures ∙ ap (λ xs. xs ++ cond c.is.result (c.place_of.result ∷ []) []) c.loop-link.invariant
    ∙ append_assoc before so_far (cond c.is.result (c.place_of.result ∷ []) [])
    ∙ ap (λ b. before ++ (so_far ++ cond b (c.place_of.result ∷ []) [])) (c.is.ensures ∙ ap (λ k. same_sort k.sort c.args.sort) part)
    ∙ ap (λ n. before ++ (so_far ++ cond (same_sort (link_of net l).sort c.args.sort) (n ∷ []) [])) (c.place_of.ensures ∙ ap (λ k. unit_place net k.from) part)
    ∙ ap (λ xs. before ++ xs) (sender_noted net u i l c.args.sort (ap (λ xs. get_or xs i 0) (c.links_into-link-items.ensures.links ∙ ap (λ n. links_into n u) c.wires-wires.ensures)))
