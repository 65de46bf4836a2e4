use Rattle.sl_check.proofs.ClaimLemmas.{claim_read, no_claim}
use Rattle.sl_check.proofs.claim.read_claim.Goals as goal

pub returns-in_default-clause-none : goal.returns-in_default-clause-none
returns-in_default-clause-none c = λ report es claim. c.in_default.ensures.none claim.front claim.back claim.parts

pub returns-in_default-2-clause-none : goal.returns-in_default-2-clause-none
returns-in_default-2-clause-none c = λ report es. no_claim c.args.net.now c.args.text.now c.in-Some.front.now c.in-Some.trace.now report es
    c.in-Some.ensures.parts (rw c.in_default-2.is at c.in_ok-schedule.ensures.none)

pub returns-clause-read : goal.returns-clause-read
returns-clause-read c = claim_read c.args.net.now c.args.text.now c.in-Some.front.now c.in-Some.trace.now c.in-Some-2.schedule.items
    c.in-Some.ensures.parts (rw c.in-Some-2.is at c.in_ok-schedule.ensures.read)
