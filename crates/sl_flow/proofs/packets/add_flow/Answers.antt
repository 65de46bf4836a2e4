use Rattle.std.proofs.Common.{◌++◌, ◌∷◌, [], map, sym, ap, ◌∙◌, append_assoc, zero-add}
use Rattle.std.proofs.lemmas.List.FromFn.{map-range_with_len_more}
use Rattle.sl_parts.specs.Parts.{below}
use Rattle.sl_flow.specs.Flow.{packet_in}
use Rattle.sl_flow.proofs.packets.add_flow.Goals as goal

pub loop-number-preserved : goal.loop-number-preserved
loop-number-preserved c =
    let before = c.args.packets.now.items in
    let so_far = map (packet_in c.args.flow) (below c.loop-number.number) in
    c.in_ok-push.ensures.items ∙ ap (λ packets. packets ++ c.packet_in.result ∷ []) c.loop-number.invariant ∙ append_assoc before so_far (c.packet_in.result ∷ [])
    ∙ ap (λ packet. before ++ (so_far ++ packet ∷ [])) c.packet_in.ensures ∙ ap (λ packets. before ++ packets) (sym (map-range_with_len_more (packet_in c.args.flow) 0 c.loop-number.number _ (zero-add c.loop-number.number)))
