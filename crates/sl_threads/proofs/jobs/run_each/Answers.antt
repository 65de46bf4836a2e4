use Rattle.std.proofs.Common.{sym, subst, slice_index_or}
use Rattle.sl_actor.specs.Held.{held}
use Rattle.sl_threads.specs.declared.jobs.Job.{Job}
use Rattle.sl_threads.specs.declared.jobs.TheConstants.{STEPS, QUIET}
use Rattle.sl_threads.specs.Threads.{HasRun, PassedAtRest}
use Rattle.sl_threads.proofs.jobs.run_each.Goals as goal

pub returns-clause-each : goal.returns-clause-each
returns-clause-each g c = λ i d e low.
    let given = (c.in_ok-ran.ensures.each i e low).1 in
    let ran = slice_index_or c.in_ok-ran.ran.items i e in
    subst (λ (job : Job g.row.A.Denot g.row.A-Msg.Denot g.A.Machine). HasRun g.A.Machine.rules job.plan.items STEPS (held job.actor) (held ran.0) ran.1) (sym (given.job_is d)) given.call.met.0

pub returns-clause-passed : goal.returns-clause-passed
returns-clause-passed g c = λ i d e low.
    let given = (c.in_ok-ran.ensures.each i e low).1 in
    let ran = slice_index_or c.in_ok-ran.ran.items i e in
    subst (λ (job : Job g.row.A.Denot g.row.A-Msg.Denot g.A.Machine). PassedAtRest g.G.Gate.passed c.args.gate.now (held job.actor).place QUIET ran.1) (sym (given.job_is d)) given.call.met.1
