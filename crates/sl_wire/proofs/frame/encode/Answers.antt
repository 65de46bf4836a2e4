use Rattle.sl_wire.proofs.FrameLemmas.{frame-read}
use Rattle.sl_wire.proofs.frame.encode.Goals as goal

pub returns-clause-back : goal.returns-clause-back
returns-clause-back c = frame-read _ _ _ _ _ (record { canonical = c.requires; spelled = c.frame_of.ensures })
