use Rattle.sl_model.specs.World.{world}
use Rattle.sl_proto.proofs.Sent.{told-is-dumped, told-is-known}
use Rattle.sl_proto.proofs.laws.dones_told_what_is_known.Goals as goal

pub returns-clause-put : goal.returns-clause-put
returns-clause-put c s lost es u i r q = told-is-dumped c.links_pass_messages.ensures s (world s lost es) u r (c.dones_tell_dumps.ensures.put s lost es u i r q)

pub returns-clause-taken : goal.returns-clause-taken
returns-clause-taken c s lost es u i r n q = told-is-known s lost (world s lost es) u i r (c.known_steps_are_made.ensures s n) (c.worlds_take_turns.ensures.fifo_run s lost es) q
