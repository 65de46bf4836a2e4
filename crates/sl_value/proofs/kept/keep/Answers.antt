use Rattle.std.proofs.Common.{◌≡◌, ◌<◌, length, map, drop, get_or, ap, subst, sym, ◌∙◌, arith, add-one}
use Rattle.std.specs.Prelude.{slice_set}
use Rattle.std.specs.List.{AllByRecursion}
use Rattle.std.proofs.lemmas.List.{length-set, length-map, get_or-map, map-set}
use Rattle.std.proofs.lemmas.List.Edits.{map_over_more}
use Rattle.sl_value.specs.Valued.{kept_view, kept_of, HasRoom}
use Rattle.sl_value.proofs.Lists.{all-after}
use Rattle.sl_value.proofs.kept.keep.Goals as goal

pub loop-i-preserved : goal.loop-i-preserved
loop-i-preserved c =
    let inv = c.loop-i.invariant in
    let i = c.loop-i.i in
    let f = kept_of c.args.view.now c.args.done.now in
    let us = map kept_view c.args.kept.now.items in
    let x = c.index_mut.result.now in
    let low : i < length c.loop-i.kept.items = omega (arith, inv.len) in
    let under : i < length us = omega (arith, inv.len, length-map c.args.kept.now.items kept_view) in
    let there : kept_view x ≡ get_or (map kept_view c.loop-i.kept.items) i (kept_view x) = ap kept_view c.index_mut.ensures.value ∙ sym (get_or-map kept_view c.loop-i.kept.items i x (kept_view x) low) in record {
      kept = map-set kept_view c.loop-i.kept.items i c.take_values.new.self ∙ ap (slice_set (map kept_view c.loop-i.kept.items) i) c.take_values.ensures
          ∙ map_over_more f us (map kept_view c.loop-i.kept.items) i (kept_view x) under inv.kept there;
      room = subst (λ n. AllByRecursion (HasRoom c.args.ring) (drop n (slice_set c.loop-i.kept.items i c.take_values.new.self))) (sym (add-one i))
          (all-after (HasRoom c.args.ring) c.loop-i.kept.items i c.take_values.new.self low inv.room);
      len = length-set c.loop-i.kept.items i c.take_values.new.self ∙ inv.len;
    }
