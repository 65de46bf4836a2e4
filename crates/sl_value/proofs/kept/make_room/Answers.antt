use Rattle.std.proofs.Common.{◌<◌, length, take, subst, sym, ◌∙◌, arith, add-one}
use Rattle.std.specs.Prelude.{slice_set}
use Rattle.std.specs.List.{AllByRecursion}
use Rattle.std.proofs.lemmas.List.{length-set}
use Rattle.sl_value.specs.Valued.{kept_view, HasRoom}
use Rattle.sl_value.proofs.Lists.{one-viewed, all-next}
use Rattle.sl_value.proofs.kept.make_room.Goals as goal

pub returns-in_err-make_room-clause-same : goal.returns-in_err-make_room-clause-same
returns-in_err-make_room-clause-same c =
    let low : c.loop-i.i < length c.loop-i.kept.items = omega (arith, c.loop-i.invariant.len) in
    one-viewed kept_view c.loop-i.kept.items c.loop-i.i c.index_mut.result.now c.make_room.new.self low c.index_mut.ensures.value c.make_room.ensures.same
    ∙ c.loop-i.invariant.same

pub loop-i-preserved : goal.loop-i-preserved
loop-i-preserved c =
    let low : c.loop-i.i < length c.loop-i.kept.items = omega (arith, c.loop-i.invariant.len) in record {
      same = one-viewed kept_view c.loop-i.kept.items c.loop-i.i c.index_mut.result.now c.make_room.new.self low c.index_mut.ensures.value
          c.make_room.ensures.same ∙ c.loop-i.invariant.same;
      room = subst (λ n. AllByRecursion (HasRoom c.args.room) (take n (slice_set c.loop-i.kept.items c.loop-i.i c.make_room.new.self))) (sym (add-one c.loop-i.i))
          (all-next (HasRoom c.args.room) c.loop-i.kept.items c.loop-i.i c.make_room.new.self low c.loop-i.invariant.room c.in_ok-make_room.ensures.room);
      len = length-set c.loop-i.kept.items c.loop-i.i c.make_room.new.self ∙ c.loop-i.invariant.len;
    }
