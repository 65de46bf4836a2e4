use Rattle.std.proofs.Common.{◌≡◌, ℕ, Vec, Global, [], ◌++◌, ◌∷◌, map, rules, arith}
use Rattle.sl_actor.specs.Follows.{ActorView}
use Rattle.sl_actor.specs.Held.{held}
use Rattle.sl_threads.specs.declared.jobs.Job.{Job}
use Rattle.std.proofs.lemmas.Grind.{common_steps}
use Rattle.sl_threads.proofs.JobLemmas.{moved_by, first_plan, other_plans, opened, none_left, at_end}
use Rattle.sl_threads.proofs.jobs.jobs_of.Goals as goal

pub make_job-job-requires : goal.make_job-job-requires
make_job-job-requires g c =
    first_plan _ _ _ _ (opened (λ (v : ActorView g.A.Machine.State g.row.A-Msg.Denot). v.counts) (λ (p : Vec ℕ Global). p.items) (map held c.loop-actor.rest.items) (map held c.pop_front.new.self.items) (held c.in-Some.actor) c.loop-actor.plans_left.items c.pop_front-in-Some.new.self.items c.in-Some-pop_front.plan
    (λ i. map held (c.in-Some.ensures.items i)) c.in-Some-pop_front.ensures.items c.loop-actor.invariant.2)

pub loop-actor-preserved : goal.loop-actor-preserved
loop-actor-preserved g c =
    let h = c.loop-actor.invariant in
    let pushed : c.push.new.self.items ≡ c.loop-actor.jobs.items ++ c.make_job-job.result ∷ [] = search rules in
    let e = c.make_job-job.ensures in (
      moved_by (λ (j : Job g.row.A.Denot g.row.A-Msg.Denot g.A.Machine). held j.actor) held c.loop-actor.jobs.items c.push.new.self.items c.loop-actor.rest.items c.pop_front.new.self.items c.make_job-job.result c.in-Some.actor _ h.0 c.in-Some.ensures.items pushed e.actor,
      moved_by (λ (j : Job g.row.A.Denot g.row.A-Msg.Denot g.A.Machine). j.plan.items) (λ (p : Vec ℕ Global). p.items) c.loop-actor.jobs.items c.push.new.self.items c.loop-actor.plans_left.items c.pop_front-in-Some.new.self.items c.make_job-job.result c.in-Some-pop_front.plan _ h.1 c.in-Some-pop_front.ensures.items pushed e.plan,
      other_plans _ _ _ _ (opened (λ (v : ActorView g.A.Machine.State g.row.A-Msg.Denot). v.counts) (λ (p : Vec ℕ Global). p.items) (map held c.loop-actor.rest.items) (map held c.pop_front.new.self.items) (held c.in-Some.actor) c.loop-actor.plans_left.items c.pop_front-in-Some.new.self.items c.in-Some-pop_front.plan
          (λ i. map held (c.in-Some.ensures.items i)) c.in-Some-pop_front.ensures.items h.2),
    )

pub returns-clause-actors : goal.returns-clause-actors
returns-clause-actors g c =
    let none : c.loop-actor.rest.items ≡ [] = grind (arith, common_steps) in
    at_end (λ (j : Job g.row.A.Denot g.row.A-Msg.Denot g.A.Machine). held j.actor) held c.loop-actor.jobs.items c.loop-actor.rest.items _ c.loop-actor.invariant.0 none

pub returns-clause-plans : goal.returns-clause-plans
returns-clause-plans g c =
    let none : c.loop-actor.rest.items ≡ [] = grind (arith, common_steps) in
    at_end (λ (j : Job g.row.A.Denot g.row.A-Msg.Denot g.A.Machine). j.plan.items) (λ (p : Vec ℕ Global). p.items) c.loop-actor.jobs.items c.loop-actor.plans_left.items _ c.loop-actor.invariant.1
    (none_left (λ (v : ActorView g.A.Machine.State g.row.A-Msg.Denot). v.counts) (λ (p : Vec ℕ Global). p.items) (map held c.loop-actor.rest.items) c.loop-actor.plans_left.items (λ i. map held (none i)) c.loop-actor.invariant.2)
