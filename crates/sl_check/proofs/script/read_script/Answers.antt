use Rattle.std.proofs.Common.{◌≡◌, ℕ, List, length, true, false, sym, subst, ap}
use Rattle.std.specs.Prelude.{◌==◌}
use Rattle.sl_check.proofs.ScriptLemmas.{HasRead, read_more, no_spelling, no_rest}
use Rattle.sl_check.proofs.script.read_script.Goals as goal

pub returns-in_default-2-clause-none : goal.returns-in_default-2-clause-none
returns-in_default-2-clause-none c = λ es. no_spelling c.args.net.now c.args.text.now c.loop-line.entries.items es c.loop-line.rest.now c.in-Some.line.now c.in-Some.next.now
    c.requires.lines c.loop-line.invariant c.in-Some.ensures.line c.in-Some.ensures.split (rw c.in_default-2.is at c.in_ok-entry.ensures)

pub loop-line-preserved : goal.loop-line-preserved
loop-line-preserved c = let found = rw c.in-Some-2.is at c.in_ok-entry.ensures in
    subst (λ es. HasRead c.args.net.now c.args.text.now es c.in-Some.next.now) (sym c.in_ok-push.ensures.items)
    (read_more c.args.net.now c.args.text.now c.loop-line.entries.items c.loop-line.rest.now c.in-Some.line.now c.in-Some.next.now c.in-Some-2.entry
    c.loop-line.invariant c.in-Some.ensures.split found.0 found.1)

pub returns-else-is_empty-clause-none : goal.returns-else-is_empty-clause-none
returns-else-is_empty-clause-none c = λ es q.
    let e = no_rest c.args.net.now c.args.text.now c.loop-line.entries.items es c.loop-line.rest.now c.requires.lines c.loop-line.invariant c.in_default.ensures.none q in
    let z : (length c.loop-line.rest.now == 0) ≡ true = ap (λ (r : List ℕ). length r == 0) e in
    let f : c.is_empty.result ≡ false = c.if-is_empty.false in
    let g : c.is_empty.result ≡ (length c.loop-line.rest.now == 0) = c.is_empty.ensures in cc
