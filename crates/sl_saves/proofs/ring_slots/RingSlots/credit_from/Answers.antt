use Rattle.std.proofs.Common.{false, ◌-◌, ap, sym, ◌∙◌, arith, length, slice_index_or, slice_set}
use Rattle.std.proofs.lemmas.List.{length-set}
use Rattle.sl_saves.specs.declared.entry.Slot.{Slot}
use Rattle.sl_saves.specs.Calls.{Credit}
use Rattle.sl_saves.specs.Views.{no_slot, place_below}
use Rattle.sl_saves.specs.Keeping.{slot_credited, slots_credited}
use Rattle.sl_saves.proofs.Rings.{slots-end, slots-on, on-above}
use Rattle.sl_saves.proofs.ring_slots.RingSlots.credit_from.Goals as goal

pub returns-then-is_foot-clause-value : goal.returns-then-is_foot-clause-value
returns-then-is_foot-clause-value c =
    let l = c.loop-left in
    let x : Credit = record { channel = c.args.channel; age = l.age; bytes = c.args.bytes } in
    c.credit.ensures ∙ ap (λ b. slice_set l.self l.place (slot_credited b x (slice_index_or l.self l.place no_slot))) c.if-is_foot.true
    ∙ slots-end l.left x l.place l.self c.loop-left-test.true (sym (c.is_last-is_foot.ensures c.args.channel c.args.bytes) ∙ c.if-is_foot.true) ∙ l.invariant.rest

pub overflow_sub-age : goal.overflow_sub-age
overflow_sub-age c =
    let l = c.loop-left in
    let above = on-above (l.left - 1) (record { channel = c.args.channel; age = l.age; bytes = c.args.bytes }) l.place l.self
    (sym (c.is_last-is_foot.ensures c.args.channel c.args.bytes) ∙ c.if-is_foot.false) in
    omega (arith, above, ap (λ (s : Slot). s.back) c.get.ensures)

pub place_below-place-requires-clause-back : goal.place_below-place-requires-clause-back
place_below-place-requires-clause-back c =
    let l = c.loop-left in
    let near = l.invariant.near in
    let above = on-above (l.left - 1) (record { channel = c.args.channel; age = l.age; bytes = c.args.bytes }) l.place l.self
    (sym (c.is_last-is_foot.ensures c.args.channel c.args.bytes) ∙ c.if-is_foot.false) in
    omega (arith, above, near, ap (λ (s : Slot). s.back) c.get.ensures)

pub loop-left-preserved : goal.loop-left-preserved
loop-left-preserved c =
    let l = c.loop-left in
    let near = l.invariant.near in
    let long = l.invariant.long in
    let x : Credit = record { channel = c.args.channel; age = l.age; bytes = c.args.bytes } in
    let last = sym (c.is_last-is_foot.ensures c.args.channel c.args.bytes) ∙ c.if-is_foot.false in
    let read = c.get.ensures in
    let next = c.place_below-place.ensures.value ∙ (λ i. place_below (sym long i) l.place (read i).back) in
    let grown = c.credit.ensures ∙ ap (λ b. slice_set l.self l.place (slot_credited b x (slice_index_or l.self l.place no_slot))) c.if-is_foot.false in
    record {
      long = ap length grown ∙ length-set l.self l.place (slot_credited false x (slice_index_or l.self l.place no_slot)) ∙ long;
      same = l.invariant.same;
      inside = c.place_below-place.ensures.inside;
      near = omega (arith, near);
      rest = (λ i. slots_credited (l.left - 1) (record { channel = c.args.channel; age = l.age - (read i).back; bytes = c.args.bytes }) (next i) (grown i))
          ∙ slots-on l.left x l.place l.self c.loop-left-test.true last ∙ l.invariant.rest;
    }
