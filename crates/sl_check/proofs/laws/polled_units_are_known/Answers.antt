use Rattle.sl_check.proofs.Polled.{knows_where_polled, polled_where_known}
use Rattle.sl_check.proofs.laws.polled_units_are_known.Goals as goal

pub returns-clause-known : goal.returns-clause-known
returns-clause-known c = λ s lost es net table all. knows_where_polled s lost es (c.nets_are_wired.ensures s.net net) table all
    (c.worlds_are_runs.ensures s lost es) (c.known_steps_are_made.ensures s net) c.links_pass_messages.ensures c.dones_tell_dumps.ensures.taken

pub returns-clause-only : goal.returns-clause-only
returns-clause-only c = λ s lost es net table all. polled_where_known s lost es (c.nets_are_wired.ensures s.net net) table all
    (c.worlds_are_runs.ensures s lost es) (c.known_steps_are_made.ensures s net) c.links_pass_messages.ensures c.dones_tell_dumps.ensures.taken
