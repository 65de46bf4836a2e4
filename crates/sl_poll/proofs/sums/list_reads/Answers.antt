use Rattle.std.proofs.Common.{◌++◌, ◌∷◌, [], ap, sym, ◌∙◌, map, zero-add}
use Rattle.std.proofs.lemmas.List.FromFn.{map-range_with_len_more}
use Rattle.sl_parts.specs.Parts.{below}
use Rattle.sl_poll.specs.Reading.{read_after}
use Rattle.sl_poll.specs.Sums.{read_of_sum}
use Rattle.sl_poll.proofs.sums.list_reads.Goals as goal

pub loop-place-preserved : goal.loop-place-preserved
loop-place-preserved c =
    let f = read_of_sum (read_after c.args.pace.count c.args.pace.start c.args.pace.gap) c.args.sums.now in
    c.in_ok-push.ensures.items ∙ ap (λ xs. xs ++ c.read_of_sum.result ∷ []) c.loop-place.invariant ∙ ap (λ r. map f (below c.loop-place.place) ++ r ∷ []) c.read_of_sum.ensures
    ∙ sym (map-range_with_len_more f 0 c.loop-place.place _ (zero-add c.loop-place.place))
