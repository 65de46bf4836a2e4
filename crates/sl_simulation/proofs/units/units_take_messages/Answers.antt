use Rattle.std.proofs.Common.{sym, ap, subst, ◌∙◌, refl}
use Rattle.std.specs.Prelude.{slice_get, IsSome}
use Rattle.sl_layout.specs.Net.{links_into}
use Rattle.sl_model.specs.World.{world}
use Rattle.sl_simulation.proofs.UnitSteps.{takes-follow, unit-takes}
use Rattle.sl_simulation.proofs.units.units_take_messages.Goals as goal

pub returns-clause-follows : goal.returns-clause-follows
returns-clause-follows c s table lost es u k a i step m x state us was told h t wide holds carried short few q y z =
    takes-follow (record {
      below = c.last_seen_numbers_are_below.ensures;
      few_packets = c.counts_fit.ensures.packets;
      few_bytes = c.counts_fit.ensures.bytes;
      distances = c.distances_are_differences.ensures;
      frames = c.one_frame.ensures.read;
      links = record { sorts = c.ways_are_links.ensures.sorts; toward = c.ways_are_links.ensures.toward; entrances = c.ways_are_links.ensures.entrances };
    }) c.worlds_take_turns.ensures s table lost es u k i step m x state us a was told (λ j d. c.stamps_are_in_window.ensures s lost es (u, k) i step j h.net q h.next d)
    (λ fs. c.packets_are_short.ensures s lost fs u short) (c.nets_are_wired.ensures s.net h.net) t wide holds carried few q h.next h.taken y z

pub returns-clause-choice : goal.returns-clause-choice
returns-clause-choice c s lost es u k step n = c.worlds_take_turns.ensures.choice s lost (world s lost es) (u, k) step n

pub returns-clause-takes : goal.returns-clause-takes
returns-clause-takes c s lost es u k i step q n = let t = unit-takes s lost (world s lost es) u i step q (c.worlds_take_turns.ensures.view s lost (world s lost es) (u, k) step n) in
    subst IsSome (sym t.took.taken) refl

pub returns-clause-link : goal.returns-clause-link
returns-clause-link c s lost es u k i step q n = let turns = c.worlds_take_turns.ensures in let t = unit-takes s lost (world s lost es) u i step q (turns.view s lost (world s lost es) (u, k) step n) in
    subst IsSome (sym (ap (slice_get (links_into s.net u)) (sym (turns.choice s lost (world s lost es) (u, k) step n)) ∙ t.took.into)) refl
