use Rattle.std.proofs.Common.{[], arith}
use Rattle.sl_model.specs.World.{kept}
use Rattle.sl_proto.specs.Machines.{scene_begun}
use Rattle.sl_proto.proofs.Schedules.{first-image, all-image, same-kept, grown-book, legal-run, run-legal, numbered_book}
use Rattle.sl_proto.proofs.scenes.machines_stand_for_histories.Goals as goal

pub returns-clause-image : goal.returns-clause-image
returns-clause-image g c i b es few = let f = b.follow in
    all-image b.setup b.lost b.sizes (g.I.Meaning.stands i) b.rules (record { wired = c.nets_are_wired.ensures b.setup.net f.net; sound = f.sound; table = f.table; follow = f.steps; turns = c.worlds_take_turns.ensures; passing = c.links_pass_messages.ensures; reported = c.known_steps_are_made.ensures b.setup f.net }) [] es (scene_begun b)
    (omega (arith, few)) (first-image c.worlds_take_turns.ensures b.setup b.lost b.sizes (g.I.Meaning.stands i) b.states b.losses b.first)

pub returns-clause-kept : goal.returns-clause-kept
returns-clause-kept g c i b es few = let f = b.follow in
    same-kept b.setup b.lost b.sizes (g.I.Meaning.stands i) b.rules (record { wired = c.nets_are_wired.ensures b.setup.net f.net; sound = f.sound; table = f.table; follow = f.steps; turns = c.worlds_take_turns.ensures; passing = c.links_pass_messages.ensures; reported = c.known_steps_are_made.ensures b.setup f.net }) [] es (scene_begun b)
    (omega (arith, few)) (first-image c.worlds_take_turns.ensures b.setup b.lost b.sizes (g.I.Meaning.stands i) b.states b.losses b.first)

pub returns-clause-book : goal.returns-clause-book
returns-clause-book g c i b es few = let f = b.follow in
    numbered_book _ (kept b.setup b.lost es)
    (grown-book b.setup b.lost b.sizes (g.I.Meaning.stands i) b.rules (record { wired = c.nets_are_wired.ensures b.setup.net f.net; sound = f.sound; table = f.table; follow = f.steps; turns = c.worlds_take_turns.ensures; passing = c.links_pass_messages.ensures; reported = c.known_steps_are_made.ensures b.setup f.net }) [] es (scene_begun b)
    (omega (arith, few)) (first-image c.worlds_take_turns.ensures b.setup b.lost b.sizes (g.I.Meaning.stands i) b.states b.losses b.first))

pub returns-clause-legal : goal.returns-clause-legal
returns-clause-legal g c i b es few legal = let f = b.follow in
    legal-run b.setup b.lost b.sizes (g.I.Meaning.stands i) b.rules (record { wired = c.nets_are_wired.ensures b.setup.net f.net; sound = f.sound; table = f.table; follow = f.steps; turns = c.worlds_take_turns.ensures; passing = c.links_pass_messages.ensures; reported = c.known_steps_are_made.ensures b.setup f.net }) [] es (scene_begun b)
    (omega (arith, few)) (first-image c.worlds_take_turns.ensures b.setup b.lost b.sizes (g.I.Meaning.stands i) b.states b.losses b.first) legal

pub returns-clause-only : goal.returns-clause-only
returns-clause-only g c i b es v few is = let f = b.follow in
    run-legal b.setup b.lost b.sizes (g.I.Meaning.stands i) b.rules (record { wired = c.nets_are_wired.ensures b.setup.net f.net; sound = f.sound; table = f.table; follow = f.steps; turns = c.worlds_take_turns.ensures; passing = c.links_pass_messages.ensures; reported = c.known_steps_are_made.ensures b.setup f.net }) [] es (scene_begun b) v
    (omega (arith, few)) (first-image c.worlds_take_turns.ensures b.setup b.lost b.sizes (g.I.Meaning.stands i) b.states b.losses b.first) is
