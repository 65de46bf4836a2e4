use Rattle.std.proofs.Common.{◌≡◌, ℕ, Bool, ◌++◌, ◌∷◌, [], ap, sym, ◌∙◌, append_assoc, get_or}
use Rattle.std.specs.Prelude.{cond, filter}
use Rattle.sl_parts.specs.Parts.{below}
use Rattle.sl_layout.specs.Net.{same_sort, link_of, link_at}
use Rattle.sl_parts.proofs.Lists.{filter_below_more}
use Rattle.sl_unit.proofs.make.add_choices.Goals as goal

pub loop-choice-preserved : goal.loop-choice-preserved
loop-choice-preserved c =
    let net = c.args.net.now in
    let i = c.loop-choice.choice in
    let p : ℕ → Bool = λ o. same_sort (link_of net (link_at net c.args.actor o)).sort c.args.sort in
    let before = c.args.choices.now.items in
    let passes : c.is-passes.result ≡ p i = c.is-passes.ensures ∙ ap (λ k. same_sort k.sort c.args.sort) (c.link.ensures.link ∙ ap (λ ls. link_of net (get_or ls i 0)) c.links_into-links.ensures.links) in
    c.in_ok-push_if.ensures ∙ ap (λ xs. xs ++ cond c.is-passes.result (i ∷ []) []) c.loop-choice.invariant
    ∙ append_assoc before (filter p (below i)) (cond c.is-passes.result (i ∷ []) [])
    ∙ ap (λ b. before ++ (filter p (below i) ++ cond b (i ∷ []) [])) passes
    ∙ ap (λ xs. before ++ xs) (sym (filter_below_more p i))
