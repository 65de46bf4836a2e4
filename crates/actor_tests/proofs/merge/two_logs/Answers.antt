use Rattle.std.proofs.Common.{arith, subst, sym}
use Rattle.std.specs.List.Sorted.{IsNonDecreasingBy}
use Rattle.sl_machine.specs.declared.wiring.Entry.{Entry}
use Rattle.actor_tests.proofs.OrderLemmas.{in_order}
use Rattle.actor_tests.proofs.merge.two_logs.Goals as goal

pub returns : goal.returns
returns c =
    subst (IsNonDecreasingBy (λ (e : Entry). e.actor)) (sym c.in_ok-vec.ensures.items)
    (in_order c.entry.result c.entry-2.result c.entry-3.result c.entry-4.result c.entry-5.result
    (omega (arith, c.entry.ensures, c.entry-2.ensures)) (omega (arith, c.entry-2.ensures, c.entry-3.ensures)) (omega (arith, c.entry-3.ensures, c.entry-4.ensures)) (omega (arith, c.entry-4.ensures, c.entry-5.ensures)))
