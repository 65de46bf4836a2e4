use Rattle.std.proofs.Common.{ap, ◌∙◌}
use Rattle.sl_wire.specs.Frames.{decoded}
use Rattle.sl_wire.proofs.FrameLemmas.{frame-found}
use Rattle.sl_wire.proofs.frame.decode.Goals as goal

pub returns-clause-frame : goal.returns-clause-frame
returns-clause-frame c = frame-found _ _ _ (λ i. (c.type_inv.bytes i).fits) (c.decode.ensures ∙ ap (decoded c.args.width.bits) c.new.ensures)
