use Rattle.std.proofs.Common.{[], arith}
use Rattle.sl_wire.specs.Sizes.{sizes_of}
use Rattle.sl_model.specs.World.{kept}
use Rattle.sl_proto.specs.Meaning.{NodeStands}
use Rattle.sl_proto.specs.Nodes.{node_rules}
use Rattle.sl_proto.specs.Standing.{scene_of}
use Rattle.sl_proto.proofs.Schedules.{first-image, all-image, same-kept, grown-book, legal-run, run-legal, numbered_book}
use Rattle.sl_proto.proofs.nodes.nodes_stand_for_histories.Goals as goal

pub returns-clause-image : goal.returns-clause-image
returns-clause-image c x f es few = let h = c.nodes_follow.ensures x.setup x.table x.lost f.runnable in
    all-image x.setup x.lost (sizes_of x.table) (NodeStands x.setup x.table) node_rules (record { wired = c.nets_are_wired.ensures x.setup.net h.net; sound = h.sound; table = h.table; follow = h.steps; turns = c.worlds_take_turns.ensures; passing = c.links_pass_messages.ensures; reported = c.known_steps_are_made.ensures x.setup h.net }) [] es (scene_of f)
    (omega (arith, few)) (first-image c.worlds_take_turns.ensures x.setup x.lost (sizes_of x.table) (NodeStands x.setup x.table) f.states f.losses f.first)

pub returns-clause-kept : goal.returns-clause-kept
returns-clause-kept c x f es few = let h = c.nodes_follow.ensures x.setup x.table x.lost f.runnable in
    same-kept x.setup x.lost (sizes_of x.table) (NodeStands x.setup x.table) node_rules (record { wired = c.nets_are_wired.ensures x.setup.net h.net; sound = h.sound; table = h.table; follow = h.steps; turns = c.worlds_take_turns.ensures; passing = c.links_pass_messages.ensures; reported = c.known_steps_are_made.ensures x.setup h.net }) [] es (scene_of f)
    (omega (arith, few)) (first-image c.worlds_take_turns.ensures x.setup x.lost (sizes_of x.table) (NodeStands x.setup x.table) f.states f.losses f.first)

pub returns-clause-book : goal.returns-clause-book
returns-clause-book c x f es few = let h = c.nodes_follow.ensures x.setup x.table x.lost f.runnable in
    numbered_book _ (kept x.setup x.lost es)
    (grown-book x.setup x.lost (sizes_of x.table) (NodeStands x.setup x.table) node_rules (record { wired = c.nets_are_wired.ensures x.setup.net h.net; sound = h.sound; table = h.table; follow = h.steps; turns = c.worlds_take_turns.ensures; passing = c.links_pass_messages.ensures; reported = c.known_steps_are_made.ensures x.setup h.net }) [] es (scene_of f)
    (omega (arith, few)) (first-image c.worlds_take_turns.ensures x.setup x.lost (sizes_of x.table) (NodeStands x.setup x.table) f.states f.losses f.first))

pub returns-clause-legal : goal.returns-clause-legal
returns-clause-legal c x f es few legal = let h = c.nodes_follow.ensures x.setup x.table x.lost f.runnable in
    legal-run x.setup x.lost (sizes_of x.table) (NodeStands x.setup x.table) node_rules (record { wired = c.nets_are_wired.ensures x.setup.net h.net; sound = h.sound; table = h.table; follow = h.steps; turns = c.worlds_take_turns.ensures; passing = c.links_pass_messages.ensures; reported = c.known_steps_are_made.ensures x.setup h.net }) [] es (scene_of f)
    (omega (arith, few)) (first-image c.worlds_take_turns.ensures x.setup x.lost (sizes_of x.table) (NodeStands x.setup x.table) f.states f.losses f.first) legal

pub returns-clause-only : goal.returns-clause-only
returns-clause-only c x f es v few is = let h = c.nodes_follow.ensures x.setup x.table x.lost f.runnable in
    run-legal x.setup x.lost (sizes_of x.table) (NodeStands x.setup x.table) node_rules (record { wired = c.nets_are_wired.ensures x.setup.net h.net; sound = h.sound; table = h.table; follow = h.steps; turns = c.worlds_take_turns.ensures; passing = c.links_pass_messages.ensures; reported = c.known_steps_are_made.ensures x.setup h.net }) [] es (scene_of f) v
    (omega (arith, few)) (first-image c.worlds_take_turns.ensures x.setup x.lost (sizes_of x.table) (NodeStands x.setup x.table) f.states f.losses f.first) is
