use Rattle.std.proofs.Common.{arith, rules, refl, length-append, length-take, Ok, Err, Result, OnErr}
use Rattle.std.proofs.KnownBytes.{Consumes-trans}
use Rattle.sl_io.specs.Pieces.{TakesUpTo}
use Rattle.sl_io.proofs.transfer.read_all.Goals as goal

on_err : {T E : Type 0} (P : Type 0) (r : Result T E) → P → OnErr r P
on_err P (Ok _) p = tt
on_err P (Err _) p = p

pub returns-in_err-extend_from_slice-clause-lost : goal.returns-in_err-extend_from_slice-clause-lost
returns-in_err-extend_from_slice-clause-lost g c =
    on_err (TakesUpTo c.args.limit (g.S.Source.left c.args.source.now) (g.S.Source.left c.read.new.self)) _
    (_, Consumes-trans _ _ _ _ _ c.loop-chunk.invariant.taken c.in_ok-n.ensures.next.0, simp (length-append, length-take, length-take) (omega (arith, c.in_ok-n.ensures.bound.0, c.read.auto.buf, length-take c.min-room.result c.loop-chunk.chunk, c.loop-chunk.bytes.ok.0)))

pub returns-clause-nothing_to_read : goal.returns-clause-nothing_to_read
returns-clause-nothing_to_read g c = λ _. refl

pub returns-clause-lost : goal.returns-clause-lost
returns-clause-lost g c = tt

pub returns-clause-fault : goal.returns-clause-fault
returns-clause-fault g c = λ e. cc

pub returns-clause-read : goal.returns-clause-read
returns-clause-read g c = search rules
