use Rattle.std.proofs.Common.{◌≡◌, subst}
use Rattle.std.specs.Prelude.{IfOk}
use Rattle.sl_machine.specs.declared.wiring.Link.{Link}
use Rattle.sl_net.specs.Spelling.{choice_text}
use Rattle.sl_poll.proofs.Texts.{has-choice}
use Rattle.sl_poll.proofs.text.link_text.Goals as goal

pub choice_text-requires : goal.choice_text-requires
choice_text-requires c = has-choice c.args.net.now c.args.link c.link-part.result c.wire-wire.result (c.nets_have_ways.ensures c.args.net.now) c.requires
    c.link-part.ensures.link c.link-part.ensures.ends c.wire-wire.ensures

pub returns : goal.returns
returns c = subst (λ (k : Link). IfOk c.choice_text.result (λ line. line ≡ choice_text c.args.net.now k.to k.choice)) c.wire-wire.ensures c.choice_text.ensures
