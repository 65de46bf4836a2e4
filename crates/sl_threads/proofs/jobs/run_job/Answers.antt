use Rattle.std.proofs.Common.{ℕ, List, sym, subst, arith}
use Rattle.std.specs.List.{All}
use Rattle.std.proofs.lemmas.List.{get_or_default}
use Rattle.sl_machine.specs.Machine.{IsChoice}
use Rattle.sl_actor.specs.Held.{held}
use Rattle.sl_actor.specs.Runs.{LogGoesOn, Settled}
use Rattle.sl_threads.proofs.JobLemmas.{at_most}
use Rattle.sl_threads.proofs.jobs.run_job.Goals as goal

pub run-answer-requires-clause-plan : goal.run-answer-requires-clause-plan
run-answer-requires-clause-plan g c =
    subst (λ (l : List ℕ). All (λ choice. IsChoice (g.A.Machine.counts c.args.job.actor.machine) choice) l) (sym c.as_slice.ensures.value)
    (λ k d low. omega (arith, get_or_default c.args.job.plan.items k d 0 low, c.args.job.in_range k low))

pub returns-clause-run : goal.returns-clause-run
returns-clause-run g c =
    let e = c.run-answer.ensures in
    let plan = c.as_slice.ensures.value in
    record {
      follows = e.follows;
      ends = e.ends;
      counts = e.counts;
      log = subst (λ (l : List ℕ). LogGoesOn l (held c.args.job.actor).log (held c.run-answer.new.self).log) plan e.log;
      most = at_most c.run-answer.result _ _ _ e.spent e.rested;
      spent = e.spent;
      rested = λ is. subst (λ (l : List ℕ). All (λ choice. Settled g.A.Machine.rules choice (held c.run-answer.new.self)) l) plan (e.settled is);
    }
