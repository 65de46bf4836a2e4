use Rattle.std.proofs.Common.{ap, sym, ◌∙◌, map}
use Rattle.sl_model.specs.Frame.{packet_of}
use Rattle.sl_model.specs.Setup.{setup_of}
use Rattle.sl_poll.specs.Ways.{frames_for}
use Rattle.sl_poll.proofs.Feeds.{frames_are}
use Rattle.sl_poll.proofs.feed.frames_for.Goals as goal

pub returns-in_ok-frames_of-in-Host : goal.returns-in_ok-frames_of-in-Host
returns-in_ok-frames_of-in-Host c = c.in_ok-frames_of-in-Host.ensures ∙ sym (frames_are (setup_of c.args.input.now) c.in-Host.host) ∙ ap (λ a. map packet_of (frames_for (setup_of c.args.input.now) a)) (sym c.in-Host.is)
