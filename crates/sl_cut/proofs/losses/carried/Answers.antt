use Rattle.std.proofs.lemmas.Grind.{common_steps}
use Rattle.std.proofs.Common.{◌≡◌, ◌++◌, ◌∷◌, [], ◌+◌, ap, sym, ◌∙◌, arith, take}
use Rattle.std.specs.Prelude.{cond, not}
use Rattle.sl_loss.specs.Loss.{loses_next, after_put}
use Rattle.sl_model.specs.History.{without_lost}
use Rattle.sl_model.specs.Losses.{losses}
use Rattle.sl_cut.proofs.ForwardLosses.{without_more, cond_not}
use Rattle.sl_cut.proofs.losses.carried.Goals as goal

pub loop-message-preserved : goal.loop-message-preserved
loop-message-preserved c = let i = c.args.input.now in let l = c.args.link in let n = c.loop-message.message-index in let ms = c.deref-message-items.result.now in let m = c.message-item.result in
    let lost : c.loses_next-lost.result ≡ losses i l (n + 1) = c.loses_next-lost.ensures.lost ∙ ap loses_next c.loop-message.invariant.1 ∙ c.losses_answer_in_order.ensures.next i l n in (
      c.in_ok-add_copy_if.ensures ∙ ap (λ xs. xs ++ cond (not c.loses_next-lost.result) (m ∷ []) []) c.loop-message.invariant.0
          ∙ ap (λ xs. without_lost (losses i l) 0 (take n ms) ++ xs) (cond_not c.loses_next-lost.result m ∙ ap (λ b. cond b [] (m ∷ [])) lost)
          ∙ ap (λ x. without_lost (losses i l) 0 (take n ms) ++ cond (losses i l (n + 1)) [] (x ∷ [])) c.message-item.is ∙ sym (without_more (losses i l) ms n m (omega arith)),
      c.loses_next-lost.ensures.after ∙ ap after_put c.loop-message.invariant.1 ∙ c.losses_answer_in_order.ensures.after i l n (omega arith),
    )

pub returns : goal.returns
returns c = grind (arith, common_steps)
