use Rattle.std.proofs.Common.{◌≡◌, ap, ◌∙◌}
use Rattle.std.specs.Prelude.{ℕ}
use Rattle.sl_parts.specs.Parts.{Parts}
use Rattle.sl_layout.specs.Net.{actor_of}
use Rattle.sl_balance.specs.Cabled.{is_cabled, unit_at}
use Rattle.sl_balance.proofs.Loops.{passing_more}
use Rattle.sl_balance.proofs.cabled.cabled.Goals as goal

pub loop-place-preserved : goal.loop-place-preserved
loop-place-preserved c =
    let net = c.args.net.now in
    let i = c.loop-place.place in
    let test = λ (k : ℕ). is_cabled net.parts c.args.device (actor_of net (unit_at net k)) in
    let is : c.is_cabled.result ≡ is_cabled net.parts c.args.device (actor_of net (unit_at net i)) =
    c.is_cabled.ensures ∙ ap (λ (p : Parts). is_cabled p c.args.device c.actor-actor.result) c.parts.ensures.now
    ∙ ap (is_cabled net.parts c.args.device) (c.actor-actor.ensures.actor ∙ ap (actor_of net) c.unit_actor.ensures.actor) in
    passing_more test i _ _ _ c.in_ok-push_if.ensures is c.loop-place.invariant
