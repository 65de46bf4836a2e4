use Rattle.std.proofs.Common.{◌≡◌, List, [], ◌++◌, ◌∷◌, rules, sym, subst, refl, arith}
use Rattle.std.specs.Prelude.{Result, IsOk}
use Rattle.std.specs.List.{All}
use Rattle.std.proofs.lemmas.List.Elements.{All-nil}
use Rattle.sl_machine.specs.declared.machine.Memory.{Memory}
use Rattle.sl_actor.specs.declared.actor.Actor.{Actor}
use Rattle.sl_actor.specs.declared.run.Rest.{Rest}
use Rattle.sl_actor.specs.Held.{held}
use Rattle.std.proofs.lemmas.Grind.{common_steps}
use Rattle.sl_threads.proofs.JobLemmas.{moved_by, all_on, at_end}
use Rattle.sl_threads.proofs.jobs.actors_of.Goals as goal

pub loop-one-preserved : goal.loop-one-preserved
loop-one-preserved g c =
    let h = c.loop-one.invariant in
    let pushed : c.push.new.self.items ≡ c.loop-one.actors.items ++ c.in-Some.one.0 ∷ [] = search rules in
    let here : IsOk c.in-Some.one.1 = search rules in (
      moved_by held (λ (r : Actor g.row.A.Denot g.row.A-Msg.Denot g.A.Machine × Result Rest Memory). held r.0) c.loop-one.actors.items c.push.new.self.items c.loop-one.rest.items c.pop_front.new.self.items c.in-Some.one.0 c.in-Some.one _ h.0 c.in-Some.ensures.items pushed refl,
      all_on (λ (r : Actor g.row.A.Denot g.row.A-Msg.Denot g.A.Machine × Result Rest Memory). IsOk r.1) _ c.in-Some.one c.loop-one.rest.items c.pop_front.new.self.items c.in-Some.ensures.items here h.1,
    )

pub returns-clause-actors : goal.returns-clause-actors
returns-clause-actors g c =
    let none : c.loop-one.rest.items ≡ [] = grind (arith, common_steps) in
    at_end held (λ (r : Actor g.row.A.Denot g.row.A-Msg.Denot g.A.Machine × Result Rest Memory). held r.0) c.loop-one.actors.items c.loop-one.rest.items _ c.loop-one.invariant.0 none

pub returns-clause-answers : goal.returns-clause-answers
returns-clause-answers g c =
    let none : c.loop-one.rest.items ≡ [] = grind (arith, common_steps) in
    c.loop-one.invariant.1 (subst (λ (l : List (Actor g.row.A.Denot g.row.A-Msg.Denot g.A.Machine × Result Rest Memory)). All (λ r. IsOk r.1) l) (sym none) (All-nil (λ (r : Actor g.row.A.Denot g.row.A-Msg.Denot g.A.Machine × Result Rest Memory). IsOk r.1)))
