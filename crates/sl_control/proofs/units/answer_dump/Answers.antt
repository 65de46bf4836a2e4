use Rattle.std.proofs.Common.{◌++◌, ap, sym, ◌∙◌, append-nil}
use Rattle.std.specs.Prelude.{slice_set}
use Rattle.sl_control.specs.declared.units.Sent.TheVariants.{Dump}
use Rattle.sl_control.proofs.EachUnit.{dump-turn, found-turn, found-no-turn}
use Rattle.sl_control.proofs.units.answer_dump.Goals as goal

pub returns-in-Some-clause-units : goal.returns-in-Some-clause-units
returns-in-Some-clause-units c =
    ap (slice_set c.args.units.now.items c.in-Some.i) c.answer_one.ensures.known
    ∙ (found-turn Dump c.args.choice (dump-turn c.args.width.bits c.args.ring c.args.done c.args.dump.now) c.in-Some.i c.index_mut.result.now c.deref.ensures.value c.in-Some.ensures c.requires.apart c.index_mut.ensures.value).0

pub returns-in-Some-clause-puts : goal.returns-in-Some-clause-puts
returns-in-Some-clause-puts c =
    c.answer_one.ensures.puts ∙ ap (λ ps. c.args.out.now.items ++ ps)
    (found-turn Dump c.args.choice (dump-turn c.args.width.bits c.args.ring c.args.done c.args.dump.now) c.in-Some.i c.index_mut.result.now c.deref.ensures.value c.in-Some.ensures c.requires.apart c.index_mut.ensures.value).1

pub returns-in_default-clause-units : goal.returns-in_default-clause-units
returns-in_default-clause-units c = sym (found-no-turn Dump c.args.choice (dump-turn c.args.width.bits c.args.ring c.args.done c.args.dump.now) c.deref.ensures.value c.in_default.ensures).0

pub returns-in_default-clause-puts : goal.returns-in_default-clause-puts
returns-in_default-clause-puts c =
    sym (ap (λ ps. c.args.out.now.items ++ ps) (found-no-turn Dump c.args.choice (dump-turn c.args.width.bits c.args.ring c.args.done c.args.dump.now) c.deref.ensures.value c.in_default.ensures).1 ∙ append-nil c.args.out.now.items)
