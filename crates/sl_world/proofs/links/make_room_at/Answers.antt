use Rattle.std.proofs.Common.{◌∙◌}
use Rattle.sl_world.specs.Places.{place_of}
use Rattle.sl_world.proofs.RoomLemmas.{room_more}
use Rattle.sl_world.proofs.links.make_room_at.Goals as goal

pub loop-number-preserved : goal.loop-number-preserved
loop-number-preserved g c =
    let now = c.make_room.new.self in
    record {
      same = c.make_room.ensures.lines ∙ c.loop-number.invariant.same;
      keeps = λ k h. c.make_room.ensures.keeps k (c.loop-number.invariant.keeps k h);
      room = room_more (place_of c.args.outs.now c.args.actor) c.loop-number.lines now c.loop-number.number c.place-place.result c.place-place.ensures c.make_room.ensures.keeps c.in_ok-make_room.ensures.room c.loop-number.invariant.room;
    }
