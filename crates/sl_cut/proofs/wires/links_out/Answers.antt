use Rattle.std.proofs.lemmas.Grind.{common_steps}
use Rattle.sl_layout.specs.declared.actor.LinkPart.{LinkPart}
use Rattle.std.proofs.Common.{◌≡◌, ◌<◌, ℕ, List, ap, subst, sym, ◌∙◌, arith, length, get_or}
use Rattle.std.specs.Prelude.{filter}
use Rattle.std.specs.List.{All}
use Rattle.std.proofs.lemmas.List.{take_all}
use Rattle.std.proofs.lemmas.List.Elements.{All-filter}
use Rattle.sl_layout.specs.Net.{link_of, same_sort}
use Rattle.sl_cut.proofs.Passing.{passing_more}
use Rattle.sl_cut.proofs.wires.links_out.Goals as goal

pub returns-clause-each : goal.returns-clause-each
returns-clause-each c =
    let links = c.links_from-link-items.result.now in
    let test = λ (l : ℕ). same_sort (link_of c.args.net.now l).sort c.args.sort in
    let low = λ (l : ℕ). l < length c.args.net.now.links in
    subst (λ (xs : List ℕ). All low xs) (sym (c.loop-link.invariant ∙ ap (filter test) (take_all c.loop-link.link-index links (omega arith))))
    (All-filter test low links c.links_from-link-items.ensures.each)

pub loop-link-preserved : goal.loop-link-preserved
loop-link-preserved c =
    let links = c.links_from-link-items.result.now in
    let i = c.loop-link.link-index in
    let test = λ (l : ℕ). same_sort (link_of c.args.net.now l).sort c.args.sort in
    let is : c.is.result ≡ test (get_or links i 0) = c.is.ensures ∙ ap (λ (l : LinkPart). same_sort l.sort c.args.sort) c.link.ensures.link in
    passing_more test links i _ _ _ c.loop-link-test.true is c.in_ok-push_if.ensures c.loop-link.invariant

pub returns-clause-links : goal.returns-clause-links
returns-clause-links c = grind (arith, common_steps)
