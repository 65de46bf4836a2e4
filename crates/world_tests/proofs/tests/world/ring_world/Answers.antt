use Rattle.std.proofs.Common.{sym, subst, rules}
use Rattle.sl_machine.specs.Plan.{Plan, IsSound}
use Rattle.world_tests.proofs.PlanLemmas.{ring_is_sound}
use Rattle.world_tests.proofs.tests.world.ring_world.Goals as goal

pub new-requires-4-clause-fit : goal.new-requires-4-clause-fit
new-requires-4-clause-fit c =
    record {
      sound = subst (λ (p : Plan). IsSound p) (sym c.in_ok-wiring.ensures) ring_is_sound;
      machines_fit = record { ins_are = search rules; outs_are = search rules; actions_are = search rules };
      losses_fit = search rules;
    }
