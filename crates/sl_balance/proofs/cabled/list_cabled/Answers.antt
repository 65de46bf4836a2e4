use Rattle.std.proofs.Common.{◌++◌, ◌∷◌, [], map, ap, sym, ◌∙◌, zero-add}
use Rattle.std.proofs.lemmas.List.FromFn.{map-range_with_len_more}
use Rattle.sl_parts.specs.Parts.{below}
use Rattle.sl_balance.specs.Cabled.{cabled}
use Rattle.sl_balance.proofs.cabled.list_cabled.Goals as goal

pub loop-device-preserved : goal.loop-device-preserved
loop-device-preserved c =
    let each = cabled c.args.net.now in
    let d = c.loop-device.device in
    c.in_ok-push.ensures.items ∙ ap (λ table. table ++ c.in_ok-items.items.items ∷ []) c.loop-device.invariant
    ∙ ap (λ places. map each (below d) ++ places ∷ []) c.in_ok-items.ensures ∙ sym (map-range_with_len_more each 0 d _ (zero-add d))
