use Rattle.std.proofs.lemmas.Bool.Decides.{Decides-eqb}
use Rattle.std.proofs.lemmas.Slice.Eq.{slice_eq-Decides}
use Rattle.sl_check.proofs.LineLemmas.{part_here, passed_more, none_left}
use Rattle.sl_check.proofs.lines.part_at.Goals as goal

pub returns-then-eq-clause-parts : goal.returns-then-eq-clause-parts
returns-then-eq-clause-parts c = part_here c.args.mark.now c.args.text.now c.loop-line.at c.loop-line.rest.now c.in-Some.line.now c.in-Some.next.now
    c.loop-line.invariant c.in-Some.ensures.split ((slice_eq-Decides Decides-eqb _ _ _ c.eq.ensures).0 c.if-eq.true)

pub loop-line-preserved : goal.loop-line-preserved
loop-line-preserved c = passed_more c.args.mark.now c.args.text.now c.loop-line.at c.loop-line.rest.now c.in-Some.line.now c.in-Some.next.now
    c.loop-line.invariant c.in-Some.ensures.line c.in-Some.ensures.split
    (λ e. let t = (slice_eq-Decides Decides-eqb _ _ _ c.eq.ensures).1 e in let f = c.if-eq.false in cc)

pub returns-clause-none : goal.returns-clause-none
returns-clause-none c = λ front back. none_left c.args.mark.now c.args.text.now c.loop-line.at c.loop-line.rest.now front back c.requires c.loop-line.invariant c.in_default.ensures.none
