use Rattle.std.proofs.lemmas.Bool.Decides.{Decides-eqb}
use Rattle.std.proofs.lemmas.Slice.Eq.{slice_eq-Decides}
use Rattle.sl_check.proofs.ClaimLemmas.{trace_read, no_trace, parted, other_count}
use Rattle.sl_check.proofs.claim.read_trace.Goals as goal

pub returns-in_default-clause-none : goal.returns-in_default-clause-none
returns-in_default-clause-none c = λ es. no_trace c.args.net.now c.args.text.now es c.in_default.ensures.none

pub returns-in_default-2-clause-none : goal.returns-in_default-2-clause-none
returns-in_default-2-clause-none c = λ es t.
    (rw c.in_default-2.is at c.in_ok-schedule.ensures.none) es (parted c.args.net.now c.args.text.now c.in-Some.count.now c.in-Some.script.now es c.in-Some.ensures.line c.in-Some.ensures.split t).1

pub returns-then-eq-clause-read : goal.returns-then-eq-clause-read
returns-then-eq-clause-read c = trace_read c.args.net.now c.args.text.now c.in-Some.count.now c.in-Some.script.now c.in-Some-2.schedule.items c.in-Some.ensures.split
    (rw c.in-Some-2.is at c.in_ok-schedule.ensures.read)
    (let t = (slice_eq-Decides Decides-eqb c.as_slice-3.result.now c.in-Some.count.now c.eq.result c.eq.ensures).0 c.if-eq.true in cc (t, c.in_ok-words.ensures, c.as_slice-3.ensures.value, c.len.ensures))

pub returns-clause-none : goal.returns-clause-none
returns-clause-none c = λ es. other_count c.args.net.now c.args.text.now c.in-Some.count.now c.in-Some.script.now c.in-Some-2.schedule.items es
    c.spellings_are_lines.ensures c.in-Some.ensures.line c.in-Some.ensures.split (rw c.in-Some-2.is at c.in_ok-schedule.ensures.read)
    (λ e. let t = (slice_eq-Decides Decides-eqb c.as_slice-3.result.now c.in-Some.count.now c.eq.result c.eq.ensures).1 (cc (e, c.in_ok-words.ensures, c.as_slice-3.ensures.value, c.len.ensures)) in let f = c.if-eq.false in cc)
