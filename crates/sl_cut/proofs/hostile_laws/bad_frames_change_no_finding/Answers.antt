use Rattle.sl_cut.proofs.Hostile.Alike.{findings-alike, reads-alike, broken-alike}
use Rattle.sl_cut.proofs.hostile_laws.bad_frames_change_no_finding.Goals as goal

pub returns : goal.returns
returns c = record { findings = findings-alike; reads = reads-alike; broken = broken-alike }
