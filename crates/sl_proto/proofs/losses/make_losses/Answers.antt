use Rattle.std.proofs.Common.{◌≡◌, ◌++◌, ◌∷◌, [], ap, sym, ◌∙◌, arith, get_or, map, length, zero-add}
use Rattle.std.proofs.lemmas.List.FromFn.{get_or-map-range_with_len, length-map-range_with_len, map-range_with_len_more}
use Rattle.sl_parts.specs.Parts.{below}
use Rattle.sl_model.specs.Losses.{drops_on, loss_on}
use Rattle.sl_proto.proofs.Fresh.{all-fresh, all-go, all-listed}
use Rattle.sl_proto.proofs.losses.make_losses.Goals as goal

pub numbers_of-drops-requires : goal.numbers_of-drops-requires
numbers_of-drops-requires c = let a = ap length c.as_slice.ensures.value in let b = ap length c.in_ok-lists.ensures in let k = length-map-range_with_len (drops_on c.input.inside.loss) 0 (length c.links-count.result.now) in let t = c.loop-link-test.true in omega (arith, a, b, k, t)

pub loss_with-requires-clause-drops : goal.loss_with-requires-clause-drops
loss_with-requires-clause-drops c = c.numbers_of-drops.ensures ∙ ap (λ xs. get_or xs c.loop-link.link []) (c.as_slice.ensures.value ∙ c.in_ok-lists.ensures)
    ∙ get_or-map-range_with_len (drops_on c.input.inside.loss) 0 (length c.links-count.result.now) c.loop-link.link _ [] c.loop-link-test.true (zero-add c.loop-link.link) ∙ ap (λ i. drops_on i.loss c.loop-link.link) c.input.view_is

pub loop-link-preserved : goal.loop-link-preserved
loop-link-preserved c = c.in_ok-push.ensures.items ∙ ap (λ xs. xs ++ c.in_ok-loss.loss ∷ []) c.loop-link.invariant ∙ ap (λ o. map (loss_on c.args.input.now) (below c.loop-link.link) ++ o ∷ []) c.in_ok-loss.ensures
    ∙ sym (map-range_with_len_more (loss_on c.args.input.now) 0 c.loop-link.link _ (zero-add c.loop-link.link))

pub returns-clause-losses : goal.returns-clause-losses
returns-clause-losses c = let all : c.loop-link.link ≡ length c.links-count.result.now = omega arith in
    c.loop-link.invariant ∙ ap (λ n. map (loss_on c.args.input.now) (below n)) (all ∙ ap length (c.links-count.ensures.now ∙ ap (λ i. i.net.links) c.input.view_is))

pub returns-clause-each : goal.returns-clause-each
returns-clause-each c = all-listed c.args.input.now c.loop-link.made.items (returns-clause-losses c)

pub returns-clause-fresh : goal.returns-clause-fresh
returns-clause-fresh c = all-fresh c.args.input.now c.loop-link.made.items (returns-clause-losses c)

pub returns-clause-go : goal.returns-clause-go
returns-clause-go c = all-go c.args.input.now c.loop-link.made.items (returns-clause-losses c)
