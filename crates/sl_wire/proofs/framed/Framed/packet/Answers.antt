use Rattle.std.proofs.Common.{ap, ◌∙◌}
use Rattle.sl_wire.specs.Frames.{packet_of}
use Rattle.sl_wire.proofs.Words.{packet_in}
use Rattle.sl_wire.proofs.framed.Framed.packet.Goals as goal

pub returns : goal.returns
returns c = rw (c.third.ensures, c.fourth.ensures, c.third-2.ensures, c.high.ensures, c.fourth-2.ensures) (packet_in _ _ _ ∙ ap (λ f. packet_of f.bytes) c.self.view_is)
