use Rattle.sl_cut.proofs.Hostile.Alike.{worlds-alike, idle-alike, legal-alike, kept-alike, finish-alike, ending-alike}
use Rattle.sl_cut.proofs.hostile_laws.bad_frames_change_no_turn.Goals as goal

pub returns : goal.returns
returns c = record { worlds = worlds-alike; idle = idle-alike; legal = legal-alike; kept = kept-alike; finishing = finish-alike; ending = ending-alike }
