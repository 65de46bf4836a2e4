use Rattle.std.proofs.Common.{length, sym, subst, ◌∙◌, ap}
use Rattle.sl_machine.specs.Plan.{Plan, IsSound}
use Rattle.sl_machine.specs.Fit.{HasCounts}
use Rattle.world_tests.specs.Relays.{relay_counts}
use Rattle.world_tests.proofs.PlanLemmas.{ring_is_sound}
use Rattle.world_tests.proofs.tests.world.ring_on.Goals as goal

pub resume-requires-clause-fit : goal.resume-requires-clause-fit
resume-requires-clause-fit c =
    let is = sym c.in_ok-lost.ensures.wiring in
    record {
      sound = subst IsSound is ring_is_sound;
      machines_fit = subst (λ (p : Plan). HasCounts relay_counts p c.args.machines.items) is c.requires.machines;
      losses_fit = c.in_ok-lost.ensures.losses ∙ ap (λ (p : Plan). length p.links) is;
    }
