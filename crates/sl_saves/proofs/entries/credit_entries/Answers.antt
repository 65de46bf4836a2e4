use Rattle.std.proofs.Common.{◌-◌, ap, sym, ◌∙◌, arith, slice_index_or, slice_set}
use Rattle.std.proofs.lemmas.List.{length-set}
use Rattle.sl_saves.specs.declared.entry.Slot.{Slot}
use Rattle.sl_saves.specs.declared.entries.Entry.{Entry}
use Rattle.sl_saves.specs.Calls.{Credit}
use Rattle.sl_saves.specs.Keeping.{slot_credited}
use Rattle.sl_saves.proofs.Lists.{first_credited, first-all, first-on, no_entry}
use Rattle.sl_saves.proofs.entries.credit_entries.Goals as goal

pub loop-left-init : goal.loop-left-init
loop-left-init c = record {
  inside = omega arith;
  rest = first-all c.args.credits (record { channel = c.args.channel; age = c.args.age; bytes = c.args.bytes }) c.args.entries.now;
}

pub loop-left-preserved : goal.loop-left-preserved
loop-left-preserved c =
    let l = c.loop-left in
    let x : Credit = record { channel = c.args.channel; age = l.age; bytes = c.args.bytes } in
    let at = l.place - 1 in
    let e : Entry = slice_index_or l.entries (l.place - 1) no_entry in
    let grown = c.credit.ensures ∙ ap (λ b. slot_credited b x e.slot) c.if-is_foot.false in
    let inside = l.invariant.inside in
    let long = length-set l.entries (l.place - 1) (record { number = e.number; slot = c.credit.new.self }) in
    record {
      inside = omega (arith, inside, long);
      rest = ap (λ (s : Slot). first_credited (l.left - 1) (record { channel = c.args.channel; age = l.age - e.slot.back; bytes = c.args.bytes }) at
          (slice_set l.entries at (record { number = e.number; slot = s }))) grown
          ∙ first-on l.left l.place x l.entries c.loop-left-test.true c.if-place-gt0.true (sym c.is_last-is_foot.ensures ∙ c.if-is_foot.false) ∙ l.invariant.rest;
    }
