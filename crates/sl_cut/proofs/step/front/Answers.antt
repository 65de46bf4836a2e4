use Rattle.std.proofs.Common.{◌≡◌, ap}
use Rattle.sl_net.specs.Input.{Input}
use Rattle.sl_cut.proofs.step.front.Goals as goal

pub returns : goal.returns
returns c = let n : c.input.inside.net ≡ c.args.input.now.net = ap (λ (i : Input). i.net) c.input.view_is in
    rw (c.deref.ensures.value, c.in_ok-messages.ensures, c.steps-sender.ensures.steps, c.link.ensures.link, n, c.taken.ensures.value, c.steps.ensures.steps) at c.message_at.ensures
