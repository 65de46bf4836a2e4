use Rattle.std.proofs.Common.{sym, ap, subst, ◌∙◌}
use Rattle.sl_layout.specs.Net.{unit_place}
use Rattle.sl_observe.specs.Observer.{unit_at}
use Rattle.sl_model.specs.World.{world}
use Rattle.sl_simulation.specs.ObserverImage.{IsNextReport}
use Rattle.sl_simulation.proofs.ObserverAccounts.{unit-there}
use Rattle.sl_simulation.proofs.ObserverWorlds.{unit-next-is}
use Rattle.sl_simulation.proofs.observers.dones_reach_what_they_tell.Goals as goal

pub returns : goal.returns
returns c s lost table es choice u n i step d o r f h a of =
    subst (λ x. IsNextReport table.ring x d) (sym (ap (λ o. unit_at o.units (unit_place s.net u)) h ∙ unit-there s.net (c.nets_have_ways.ensures s.net) table (world s lost es) u i a))
    (unit-next-is c.worlds_take_turns.ensures s lost table es choice n step d (c.known_steps_are_made.ensures s r.net)
    (λ u m i y d. c.dones_bring_rows.ensures s lost es choice u m i step r.net r.next y d) (c.nets_are_wired.ensures s.net r.net) f r.next u i a r.taken of)
