use Rattle.sl_proto.proofs.Schedules.{first-image}
use Rattle.sl_proto.proofs.scenes.first_scenes_stand.Goals as goal

pub returns : goal.returns
returns g c i s lost sizes states losses f = first-image c.worlds_take_turns.ensures s lost sizes (g.I.Meaning.stands i) states losses f
