use Rattle.std.proofs.lemmas.Grind.{common_steps}
use Rattle.std.proofs.Common.{◌≡◌, ℕ, ap, ◌∙◌, get_or, arith}
use Rattle.sl_layout.specs.declared.actor.LinkPart.{LinkPart}
use Rattle.sl_layout.specs.declared.actor.ActorId.{ActorId}
use Rattle.sl_layout.specs.Net.{actor_of, egress, link_of, same_actor}
use Rattle.sl_cut.proofs.Passing.{passing_more}
use Rattle.sl_cut.proofs.units.crossbar_to.Goals as goal

pub loop-link-preserved : goal.loop-link-preserved
loop-link-preserved c =
    let net = c.args.net.now in
    let to = egress c.args.device c.args.port in
    let links = c.deref-link-items.result.now in
    let i = c.loop-link.link-index in
    let test = λ (l : ℕ). same_actor (actor_of net (link_of net l).to) to in
    let is : c.is_this_unit.result ≡ test (get_or links i 0) = c.is_this_unit.ensures
    ∙ ap (λ (a : ActorId). same_actor a to) (c.actor.ensures.actor ∙ ap (λ (l : LinkPart). actor_of net l.to) c.link.ensures.link) in
    passing_more test links i _ _ _ c.loop-link-test.true is c.in_ok-push_if.ensures c.loop-link.invariant

pub returns : goal.returns
returns c = grind (arith, common_steps)
