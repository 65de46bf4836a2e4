use Rattle.std.proofs.Common.{◌≡◌, ◌<◌, ◌++◌, ◌∷◌, [], ap, sym, ◌∙◌, length, get_or, map, arith, zero-add}
use Rattle.std.proofs.lemmas.List.FromFn.{get_or-map-range_with_len, map-range_with_len_more}
use Rattle.sl_parts.specs.Parts.{below}
use Rattle.sl_layout.specs.Net.{choice_of}
use Rattle.sl_layout.specs.Wires.{out_of}
use Rattle.sl_layout.specs.Wiring.{wired_link}
use Rattle.sl_layout.proofs.wiring.list_wired.Goals as goal

pub loop-i-preserved : goal.loop-i-preserved
loop-i-preserved c =
    let net = c.args.wires.now in
    let i = c.loop-i.i in
    let within : i < length net.links = omega (arith, c.loop-i-test.true, c.outs-outs.ensures.len) in
    let out : get_or c.outs-outs.result.now i 0 ≡ out_of net i = ap (λ xs. get_or xs i 0) c.outs-outs.ensures.now ∙ get_or-map-range_with_len (out_of net) 0 (length net.links) i _ 0 within (zero-add i) in
    let choice : get_or c.choices-choices.result.now i 0 ≡ choice_of net i = ap (λ xs. get_or xs i 0) c.choices-choices.ensures.now ∙ get_or-map-range_with_len (choice_of net) 0 (length net.links) i _ 0 within (zero-add i) in
    let part = c.link-part.result in
    let so_far = map (wired_link net) (below i) in
    c.in_ok-push.ensures.items
    ∙ ap (λ xs. xs ++ record { from = part.from; out = get_or c.outs-outs.result.now i 0; to = part.to; choice = get_or c.choices-choices.result.now i 0 } ∷ []) c.loop-i.invariant
    ∙ ap (λ o. so_far ++ record { from = part.from; out = o; to = part.to; choice = get_or c.choices-choices.result.now i 0 } ∷ []) out
    ∙ ap (λ o. so_far ++ record { from = part.from; out = out_of net i; to = part.to; choice = o } ∷ []) choice
    ∙ ap (λ k. so_far ++ record { from = k.from; out = out_of net i; to = k.to; choice = choice_of net i } ∷ []) c.link-part.ensures.link
    ∙ sym (map-range_with_len_more (wired_link net) 0 i _ (zero-add i))
