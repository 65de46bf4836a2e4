use Rattle.std.proofs.Common.{◌≡◌, ◌++◌, ◌∷◌, [], ap, sym, ◌∙◌, map, get_or, zero-add}
use Rattle.std.proofs.lemmas.List.FromFn.{map-range_with_len_more}
use Rattle.sl_layout.specs.declared.actor.LinkPart.{LinkPart}
use Rattle.sl_parts.specs.Parts.{below}
use Rattle.sl_layout.specs.Net.{actor_of, data_channels, link_at, link_of, place_in}
use Rattle.sl_unit.specs.Made.{entrance, entrance_by, is_own}
use Rattle.sl_unit.proofs.make.list_entrances.Goals as goal

pub loop-choice-preserved : goal.loop-choice-preserved
loop-choice-preserved c =
    let net = c.args.net.now in
    let a = c.args.actor in
    let i = c.loop-choice.choice in
    let link : LinkPart = link_of net (link_at net a i) in
    let l : c.link-link.result ≡ link = c.link-link.ensures.link ∙ ap (λ ls. link_of net (get_or ls i 0)) c.links_into-links.ensures.links in
    let s : c.link-link.result.sort ≡ link.sort = ap (λ k. k.sort) l in
    let p : c.place_in-place.result ≡ place_in 0 i (data_channels net a) = c.place_in-place.ensures.place ∙ ap (place_in 0 i) (c.as_slice.ensures.value ∙ c.in_ok-channels.ensures.channels) in
    let o : c.is_own-own.result ≡ is_own (actor_of net a) (actor_of net link.from) = c.is_own-own.ensures ∙ ap (λ u. is_own u c.actor.result) c.actor-unit.ensures.actor
    ∙ ap (is_own (actor_of net a)) (c.actor.ensures.actor ∙ ap (λ k. actor_of net k.from) l) in
    let e : c.entrance.result ≡ entrance_by net a i = c.entrance.ensures ∙ (λ j. entrance (s j) (p j) (o j)) in
    c.in_ok-push.ensures.items ∙ ap (λ xs. xs ++ c.entrance.result ∷ []) c.loop-choice.invariant
    ∙ ap (λ x. map (entrance_by net a) (below i) ++ x ∷ []) e ∙ sym (map-range_with_len_more (entrance_by net a) 0 i _ (zero-add i))
