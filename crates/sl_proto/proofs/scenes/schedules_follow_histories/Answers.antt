use Rattle.sl_proto.proofs.Schedules.{all-image, same-kept, grown-book, legal-run, run-legal}
use Rattle.sl_proto.proofs.scenes.schedules_follow_histories.Goals as goal

pub returns-clause-image : goal.returns-clause-image
returns-clause-image g c i t fs few = let f = t.follow in
    all-image t.setup t.lost t.sizes (g.I.Meaning.stands i) t.rules (record { wired = c.nets_are_wired.ensures t.setup.net f.net; sound = f.sound; table = f.table; follow = f.steps; turns = c.worlds_take_turns.ensures; passing = c.links_pass_messages.ensures; reported = c.known_steps_are_made.ensures t.setup f.net }) t.turns fs t.scene few t.image

pub returns-clause-kept : goal.returns-clause-kept
returns-clause-kept g c i t fs few = let f = t.follow in
    same-kept t.setup t.lost t.sizes (g.I.Meaning.stands i) t.rules (record { wired = c.nets_are_wired.ensures t.setup.net f.net; sound = f.sound; table = f.table; follow = f.steps; turns = c.worlds_take_turns.ensures; passing = c.links_pass_messages.ensures; reported = c.known_steps_are_made.ensures t.setup f.net }) t.turns fs t.scene few t.image

pub returns-clause-book : goal.returns-clause-book
returns-clause-book g c i t fs few = let f = t.follow in
    grown-book t.setup t.lost t.sizes (g.I.Meaning.stands i) t.rules (record { wired = c.nets_are_wired.ensures t.setup.net f.net; sound = f.sound; table = f.table; follow = f.steps; turns = c.worlds_take_turns.ensures; passing = c.links_pass_messages.ensures; reported = c.known_steps_are_made.ensures t.setup f.net }) t.turns fs t.scene few t.image

pub returns-clause-legal : goal.returns-clause-legal
returns-clause-legal g c i t fs few legal = let f = t.follow in
    legal-run t.setup t.lost t.sizes (g.I.Meaning.stands i) t.rules (record { wired = c.nets_are_wired.ensures t.setup.net f.net; sound = f.sound; table = f.table; follow = f.steps; turns = c.worlds_take_turns.ensures; passing = c.links_pass_messages.ensures; reported = c.known_steps_are_made.ensures t.setup f.net }) t.turns fs t.scene few t.image legal

pub returns-clause-only : goal.returns-clause-only
returns-clause-only g c i t fs u few is = let f = t.follow in
    run-legal t.setup t.lost t.sizes (g.I.Meaning.stands i) t.rules (record { wired = c.nets_are_wired.ensures t.setup.net f.net; sound = f.sound; table = f.table; follow = f.steps; turns = c.worlds_take_turns.ensures; passing = c.links_pass_messages.ensures; reported = c.known_steps_are_made.ensures t.setup f.net }) t.turns fs t.scene u few t.image is
