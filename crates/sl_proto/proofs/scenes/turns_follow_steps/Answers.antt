use Rattle.sl_proto.proofs.Turned.{turned}
use Rattle.sl_proto.proofs.scenes.turns_follow_steps.Goals as goal

pub returns : goal.returns
returns g c i t a b few = let f = t.follow in
    turned t.setup t.lost t.sizes (g.I.Meaning.stands i) t.rules t.turns a b t.scene (record { wired = c.nets_are_wired.ensures t.setup.net f.net; sound = f.sound; table = f.table; follow = f.steps; turns = c.worlds_take_turns.ensures; passing = c.links_pass_messages.ensures; reported = c.known_steps_are_made.ensures t.setup f.net }) few t.image
