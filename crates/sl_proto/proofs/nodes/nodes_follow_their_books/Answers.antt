use Rattle.sl_proto.proofs.FirstNode.{observer-after}
use Rattle.sl_proto.proofs.Standing.{follows-after, stands-after}
use Rattle.sl_proto.proofs.nodes.nodes_follow_their_books.Goals as goal

pub returns-clause-stands : goal.returns-clause-stands
returns-clause-stands c net v es few x st = let f = c.nodes_follow.ensures x.setup x.table x.lost st.runnable in
    stands-after net x (record { wired = c.nets_are_wired.ensures x.setup.net f.net; sound = f.sound; table = f.table; follow = f.steps; turns = c.worlds_take_turns.ensures; passing = c.links_pass_messages.ensures; reported = c.known_steps_are_made.ensures x.setup f.net }) v es st few

pub returns-clause-follows : goal.returns-clause-follows
returns-clause-follows c net v es few x st = let f = c.nodes_follow.ensures x.setup x.table x.lost st.runnable in
    follows-after net x (record { wired = c.nets_are_wired.ensures x.setup.net f.net; sound = f.sound; table = f.table; follow = f.steps; turns = c.worlds_take_turns.ensures; passing = c.links_pass_messages.ensures; reported = c.known_steps_are_made.ensures x.setup f.net }) v es st few

pub returns-clause-observer : goal.returns-clause-observer
returns-clause-observer c v es h = observer-after v es h
