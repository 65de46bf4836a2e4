use Rattle.sl_value.proofs.Follow.{follow}
use Rattle.sl_value.proofs.meaning.values_follow.Goals as goal

pub returns : goal.returns
returns c x r = follow x.setup x.table x.lost r (c.nodes_follow.ensures x.setup x.table x.lost r) (c.nets_are_wired.ensures x.setup.net r.net) c.worlds_take_turns.ensures (c.known_steps_are_made.ensures x.setup r.net)
    c.dumps_bring_rows.ensures c.dumps_are_unwrapped.ensures c.values_are_counts.ensures
