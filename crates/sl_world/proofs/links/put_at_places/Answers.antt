use Rattle.std.proofs.Common.{◌∙◌, ◌<◌, ◌+◌, refl, length, Some}
use Rattle.std.specs.Prelude.{slice_index}
use Rattle.std.proofs.lemmas.Bool.{and_parts}
use Rattle.std.proofs.lemmas.List.Elements.{All-pop}
use Rattle.sl_world.specs.Places.{place_of}
use Rattle.sl_world.proofs.RoomLemmas.{deliver_step, last_room, some_room_kept}
use Rattle.sl_world.proofs.links.put_at_places.Goals as goal

pub loop-number-init : goal.loop-number-init
loop-number-init g c = record { rest = refl; others = λ k h. (refl, h); within = c.requires.within; room = c.requires.room; some = λ e k h. h; space = refl }

pub place-place-requires-clause-number : goal.place-place-requires-clause-number
place-place-requires-clause-number g c =
    (All-pop (λ p. slice_index c.args.outs.now.starts.items c.args.actor + p.0 < length c.args.outs.now.places.items) _ _ (Some (c.in-Some.number, c.in-Some.m)) c.in-Some.ensures.items c.loop-number.invariant.within).1

pub put-some-requires-clause-link : goal.put-some-requires-clause-link
put-some-requires-clause-link g c =
    (last_room (place_of c.args.outs.now c.args.actor) c.loop-number.lines _ _ _ _ _ c.in-Some.ensures.items c.place-place.ensures c.loop-number.invariant.room).low

pub put-some-requires-clause-room : goal.put-some-requires-clause-room
put-some-requires-clause-room g c =
    (last_room (place_of c.args.outs.now c.args.actor) c.loop-number.lines _ _ _ _ _ c.in-Some.ensures.items c.place-place.ensures c.loop-number.invariant.room).room

pub loop-number-preserved : goal.loop-number-preserved
loop-number-preserved g c =
    let now = c.put-some.new.self in
    let step = deliver_step (place_of c.args.outs.now c.args.actor) c.loop-number.lines now c.in-Some.number c.place-place.result c.in-Some.m _ _ c.in-Some.ensures.items c.place-place.ensures c.put-some.ensures.lines c.put-some.ensures.others c.loop-number.invariant.room in
    record {
      rest = step.rest ∙ c.loop-number.invariant.rest;
      others = λ k h.
          let before = c.loop-number.invariant.others k h in
          let after = step.others k before.1 in
          (after.0 ∙ before.0, after.1);
      within = (All-pop (λ p. slice_index c.args.outs.now.starts.items c.args.actor + p.0 < length c.args.outs.now.places.items) _ _ (Some (c.in-Some.number, c.in-Some.m)) c.in-Some.ensures.items c.loop-number.invariant.within).0;
      room = step.room;
      some = λ e k h.
          let both = and_parts c.loop-number.roomy c.put-some.result e in
          some_room_kept c.loop-number.lines now c.place-place.result (λ _. c.put-some.ensures.room both.1) c.put-some.ensures.others k (c.loop-number.invariant.some both.0 k h);
      space = c.take_last.ensures.room ∙ c.loop-number.invariant.space;
    }
