use Rattle.std.proofs.Common.{subst, sym}
use Rattle.sl_model.specs.Books.{schedule_of}
use Rattle.sl_model.specs.Setup.{setup_of}
use Rattle.sl_model.specs.World.{world}
use Rattle.sl_proto.specs.Told.{HasAllRows}
use Rattle.sl_proto.proofs.Told.{few_entries, observed_as, has-collected, told_is}
use Rattle.sl_proto.proofs.gather.nodes_tell_findings.Goals as goal

pub returns-clause-rows : goal.returns-clause-rows
returns-clause-rows c i lost v o h here = let watched = observed_as c.worlds_take_turns.ensures i lost v h o here in
    subst (HasAllRows i.net) (sym watched) (has-collected i.net i.snapshot (world (setup_of i) lost (schedule_of v.book)) (c.nets_are_wired.ensures i.net h.runnable.net))

pub returns-clause-observed : goal.returns-clause-observed
returns-clause-observed c i lost v o h here = observed_as c.worlds_take_turns.ensures i lost v h o here

pub returns-clause-told : goal.returns-clause-told
returns-clause-told c i lost v o h here book finished =
    let s = setup_of i in
    let es = schedule_of v.book in
    let watched = observed_as c.worlds_take_turns.ensures i lost v h o here in
    let few = few_entries c.worlds_take_turns.ensures i lost v h book in
    let list = c.observers_give_findings.ensures.list s lost i.snapshot es o h.runnable.net h.runnable.is_table h.runnable.short few watched finished in
    told_is c.worlds_take_turns.ensures s i.snapshot lost es v h.runnable.net h.image o (c.observers_tell.ensures.floor s lost i.snapshot es o watched) (c.observers_tell.ensures.issued s lost i.snapshot es o watched)
    (c.observers_tell.ensures.resent s lost i.snapshot es o watched) list
