use Rattle.std.proofs.Common.{◌≡◌, ℕ, length, arith, subst}
use Rattle.sl_world.proofs.MarkLemmas.{MarksFirst, marked-next, marked-end}
use Rattle.sl_world.proofs.marked_lines.mark_lines.Goals as goal

pub loop-link-preserved : goal.loop-link-preserved
loop-link-preserved g c = marked-next c.args.lines.now c.loop-link.link c.loop-link.filled c.write.new.self c.index-lines-link.result c.is_empty.result c.loop-link.invariant (record { same = c.write.ensures.same; others = c.write.ensures.others; room = c.write.ensures.room }) c.loop-link-test.true c.index-lines-link.is c.is_empty.ensures

pub returns : goal.returns
returns g c =
    let all : c.loop-link.link ≡ length c.args.lines.now = omega (arith, c.loop-link-test.false, c.loop-link.auto.link-end) in
    marked-end c.args.lines.now c.loop-link.filled c.write-2.new.self (subst (λ (n : ℕ). MarksFirst c.args.lines.now n c.loop-link.filled) all c.loop-link.invariant) (record { same = c.write-2.ensures.same; others = c.write-2.ensures.others; room = c.write-2.ensures.room })
