use Rattle.std.proofs.Common.{◌++◌, [], ◌∙◌}
use Rattle.std.specs.Prelude.{◌&&◌, cond}
use Rattle.sl_control.specs.Told.{is_read_by, puts_by}
use Rattle.sl_control.proofs.units.answer_one.Goals as goal

pub returns-then-has_rooms-clause-puts : goal.returns-then-has_rooms-clause-puts
returns-then-has_rooms-clause-puts c =
    let w = c.if-has_wids.ensures in let r = c.if-has_rooms.ensures in let e = c.told_by-told.ensures.told in
    c.answer_told.ensures.puts
    ∙ (λ i. c.args.out.now.items ++ cond (w i && (r i && is_read_by c.args.ring (e i) c.args.dump.now.view c.args.known.now))
    (puts_by c.args.done (e i) c.args.dump.now.view c.args.known.now) [])
