use Rattle.std.proofs.Common.{List, map, sym, subst, rules}
use Rattle.sl_machine.specs.Plan.{Plan, IsSound}
use Rattle.sl_machine.specs.Fit.{Fits, HasCounts}
use Rattle.sl_actor.specs.Held.{held}
use Rattle.sl_actor.specs.Made.{EachFollows, AreTied}
use Rattle.actor_tests.specs.Lines.{in_line}
use Rattle.world_tests.specs.Relays.{RelayState, relay_counts, relay_rules}
use Rattle.actor_tests.proofs.LineLemmas.{line_is_sound}
use Rattle.actor_tests.proofs.actor.actors_in_line.Goals as goal

pub make_actors-requires-clause-fit : goal.make_actors-requires-clause-fit
make_actors-requires-clause-fit c =
    record {
      sound = subst (λ (p : Plan). IsSound p) (sym c.in_ok-wiring.ensures) line_is_sound;
      machines_fit = subst (λ (p : Plan). HasCounts relay_counts p c.in_ok-machines.machines.items) (sym c.in_ok-wiring.ensures) c.in_ok-machines.ensures.counts;
      losses_fit = search rules;
    }

pub returns : goal.returns
returns c =
    let made = c.in_ok-actors.ensures in
    let machines = c.in_ok-machines.machines.items in
    let losses = c.in_ok-losses.losses.items in
    let actors = map held c.in_ok-actors.actors.items in
    let fit : Fits relay_counts in_line machines losses = record { sound = line_is_sound; machines_fit = c.in_ok-machines.ensures.counts; losses_fit = search rules } in
    let tied : AreTied in_line.links losses 1 actors = subst (λ (p : Plan). AreTied p.links losses 1 actors) c.in_ok-wiring.ensures made.tied in
    record {
      wired = c.made_actors_are_wired.ensures.wired in_line machines losses 1 actors fit made.counts made.ends tied;
      follow = subst (λ (s : List RelayState). EachFollows relay_rules s actors) c.in_ok-machines.ensures.states made.follows;
    }
