use Rattle.std.proofs.Common.{sym, ◌∙◌, arith}
use Rattle.std.specs.Prelude.{None}
use Rattle.std.proofs.lemmas.List.{get_or_read}
use Rattle.std.proofs.lemmas.Result.{on_ok_weaker}
use Rattle.sl_observe.proofs.UnitLists.{more_room}
use Rattle.sl_observe.proofs.units.prepare.Goals as goal

pub returns-in-Some-clause-room : goal.returns-in-Some-clause-room
returns-in-Some-clause-room c =
    let link = c.args.link in
    let read = get_or_read c.args.shorts.now.items link c.index.result.now (omega arith) c.index.ensures None in
    let but = c.requires.shorts link c.in-Some.place (sym read ∙ c.in-Some.is) in
    on_ok_weaker c.prepare_at.result (λ full _. full link but) c.prepare_at.ensures.room

pub returns-in-Some-clause-shorts : goal.returns-in-Some-clause-shorts
returns-in-Some-clause-shorts c =
    let kept = c.prepare_at.ensures in
    more_room c.args.ring c.args.shorts.now.items c.args.units.now.items c.prepare_at.new.units.items c.requires.shorts kept.states kept.more
