use Rattle.std.proofs.Common.{arith, length-take, length-drop}
use Rattle.std.proofs.KnownBytes.{Appends-trans}
use Rattle.std.proofs.Math.Seq.{take-add}
use Rattle.std.proofs.lemmas.List.{take_all, take_rest}
use Rattle.sl_io.proofs.transfer.write_all.Goals as goal

pub loop-start-preserved : goal.loop-start-preserved
loop-start-preserved g c = record {
  bound = omega (arith, simp (length-take, length-drop) at c.in_ok-start.ensures.bound);
  never_falls = omega (arith, c.in_ok-start.ensures.never_falls);
  tells = cc (c.in_ok-start.ensures.tells, c.loop-start.invariant.tells);
  appended = rw take-add (Appends-trans _ _ _ _ _ c.loop-start.invariant.appended (rw take_rest at c.in_ok-start.ensures.appended));
}

pub returns-clause-whole : goal.returns-clause-whole
returns-clause-whole g c = rw (take_all c.loop-start.start c.args.piece.now c.loop-start-test.false) at c.loop-start.invariant.appended
