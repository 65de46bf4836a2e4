use Rattle.sl_observe.proofs.UnitLists.{room_in_span, more_room, room_but_any}
use Rattle.sl_observe.proofs.units.prepare_all.Goals as goal

pub returns-in_err-make_rooms-clause-shorts : goal.returns-in_err-make_rooms-clause-shorts
returns-in_err-make_rooms-clause-shorts c =
    let kept = c.in_err-make_rooms.ensures in
    more_room c.args.ring c.args.shorts.now.items c.args.units.now.items c.make_rooms.new.units.items c.requires.shorts kept.states kept.more

pub returns-clause-room : goal.returns-clause-room
returns-clause-room c =
    let kept = c.in_ok-make_rooms.ensures in
    room_in_span c.args.ring c.args.device c.args.units.now.items c.make_rooms.new.units.items c.args.span c.requires.span kept.states kept.room

pub returns-clause-shorts : goal.returns-clause-shorts
returns-clause-shorts c =
    let ring = c.args.ring in
    let device = c.args.device in
    let span = c.args.span in
    let shorts = c.args.shorts.now.items in
    let us = c.args.units.now.items in
    let vs = c.make_rooms.new.units.items in
    let kept = c.in_ok-make_rooms.ensures in
    room_but_any ring device span.first shorts vs (room_in_span ring device us vs span c.requires.span kept.states kept.room)
    (more_room ring shorts us vs c.requires.shorts kept.states kept.more)
