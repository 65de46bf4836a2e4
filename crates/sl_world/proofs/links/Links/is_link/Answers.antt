use Rattle.std.proofs.Common.{◌≡◌, ◌<◌, ◌≤◌, length, ap, subst, arith, rules}
use Rattle.std.proofs.lemmas.Bool.Decides.{nat_tests}
use Rattle.sl_machine.specs.Plan.{Plan, IsSound}
use Rattle.sl_world.proofs.LinkLemmas.{only_in, action_in}
use Rattle.sl_world.proofs.links.Links.is_link.Goals as goal

pub returns : goal.returns
returns g c =
    let plan : Plan = c.args.self.now.plan in
    let sound : IsSound plan = subst IsSound (ap (λ m. m.plan) c.self.view_is) c.self.invariant.sound in
    let long : c.len.result ≡ length plan.links = search rules in
    record {
      link = λ e.
          let low : c.args.step.link < length plan.links = grind (arith, nat_tests, e, long) in
          (low, only_in plan c.args.step.actor c.args.step.choice sound (omega (arith, low, c.requires.link)));
      action = λ e.
          let past : length plan.links ≤ c.args.step.link = grind (arith, nat_tests, e, long) in
          (past, action_in plan c.args.step.actor c.args.step.choice sound c.requires.actor (omega (arith, past, c.requires.link)));
    }
