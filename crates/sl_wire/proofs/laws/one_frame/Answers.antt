use Rattle.sl_wire.proofs.FrameLemmas.{frame-read, frame-spelled, frame-unique}
use Rattle.sl_wire.proofs.laws.one_frame.Goals as goal

pub returns-clause-read : goal.returns-clause-read
returns-clause-read c = frame-read

pub returns-clause-spelled : goal.returns-clause-spelled
returns-clause-spelled c = frame-spelled

pub returns-clause-unique : goal.returns-clause-unique
returns-clause-unique c = frame-unique
