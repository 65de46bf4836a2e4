use Rattle.std.proofs.Common.{◌≡◌, ◌+◌, ◌++◌, ◌∷◌, [], refl, ap, ◌∙◌, arith, append-nil, length, length-append, sym}
use Rattle.std.specs.Prelude.{cond, filter}
use Rattle.sl_parts.specs.Parts.{below}
use Rattle.sl_unit.specs.Wires.{is_out}
use Rattle.sl_machine.specs.Machine.{send_all}
use Rattle.sl_unit.specs.Notes.{message_of}
use Rattle.sl_unit.proofs.Outs.{sent_more, length_sent}
use Rattle.sl_unit.proofs.Spans.{at_end, is_one_more}
use Rattle.sl_unit.proofs.puts.put_on.Goals as goal

pub loop-i-init : goal.loop-i-init
loop-i-init c = let before = c.args.out.now.items in record {
  items = sym (ap (λ ls. before ++ send_all (message_of c.args.note.now) ls) c.span-span.ensures.before ∙ append-nil before);
  room = refl;
}

pub put_if-requires : goal.put_if-requires
put_if-requires c = record {
  room = λ t.
      let exits = c.args.wires.now.exits in
      let before = c.args.out.now.items in
      let so_far = filter (is_out c.args.way exits) (below c.loop-i.i) in
      let sent = send_all (message_of c.args.note.now) so_far in
      let more = is_one_more c.args.way exits c.span-span.result c.loop-i.i c.span-span.ensures c.loop-i-test.true (sym c.goes.ensures ∙ t) in
      let many : length c.loop-i.out.items ≡ length before + length sent = ap length c.loop-i.invariant.items ∙ length-append before sent in
      omega (arith, more, many, length_sent (message_of c.args.note.now) so_far, c.requires.room, c.loop-i.invariant.room);
}

pub loop-i-preserved : goal.loop-i-preserved
loop-i-preserved c =
    let m = message_of c.args.note.now in
    let p = is_out c.args.way c.args.wires.now.exits in
    let i = c.loop-i.i in
    let before = c.args.out.now.items in record {
      items = c.put_if.ensures.items ∙ ap (λ xs. xs ++ cond c.goes.result ((i, m) ∷ []) []) c.loop-i.invariant.items
          ∙ ap (λ b. (before ++ send_all m (filter p (below i))) ++ cond b ((i, m) ∷ []) []) c.goes.ensures ∙ sent_more m p before i;
      room = c.put_if.ensures.room ∙ c.loop-i.invariant.room;
    }

pub returns-clause-items : goal.returns-clause-items
returns-clause-items c =
    let exits = c.args.wires.now.exits in
    let all = at_end (is_out c.args.way exits) (length exits) c.loop-i.i c.span-span.result c.span-span.ensures c.loop-i-test.false c.loop-i.auto.i-end in
    c.loop-i.invariant.items ∙ ap (λ ls. c.args.out.now.items ++ send_all (message_of c.args.note.now) ls) all
