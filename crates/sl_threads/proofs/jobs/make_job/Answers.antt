use Rattle.sl_threads.proofs.jobs.make_job.Goals as goal

pub invariant_of-result : goal.invariant_of-result
invariant_of-result g c = record { in_range = λ i low. c.requires i 0 low }
