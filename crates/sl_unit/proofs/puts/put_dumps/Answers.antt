use Rattle.std.proofs.Common.{ℕ, ◌++◌, ◌∷◌, [], refl, ap, ◌∙◌, arith, append-nil, length, sym}
use Rattle.std.specs.Prelude.{cond, filter}
use Rattle.sl_layout.specs.declared.actor.Sort.TheVariants as sort
use Rattle.sl_parts.specs.Parts.{below}
use Rattle.sl_wire.specs.declared.message.Msg.TheVariants.{Dump}
use Rattle.sl_unit.specs.declared.wires.Way.TheVariants.{All as AllOf}
use Rattle.sl_unit.specs.Wires.{is_out}
use Rattle.sl_machine.specs.Machine.{send_all}
use Rattle.sl_unit.proofs.Outs.{sent_more, many_more}
use Rattle.sl_unit.proofs.Spans.{at_end, is_one_more}
use Rattle.sl_unit.proofs.puts.put_dumps.Goals as goal

pub loop-i-init : goal.loop-i-init
loop-i-init c =
    let before = c.args.out.now.items in
    let none = c.span-span.ensures.before in record {
      items = λ dump same. sym (ap (λ ls. before ++ send_all (Dump dump) ls) none ∙ append-nil before);
      many = omega (arith, ap length none);
      room = refl;
      left = omega (arith, ap length none);
      same = λ dump same. same;
    }

pub put_dump_if-requires-clause-room : goal.put_dump_if-requires-clause-room
put_dump_if-requires-clause-room c t =
    let way = AllOf sort.Dump in
    let more = is_one_more way c.args.wires.now.exits c.span-span.result c.loop-i.i c.span-span.ensures c.loop-i-test.true (sym c.goes.ensures ∙ t) in
    omega (arith, more, c.loop-i.invariant.many, c.requires.room, c.loop-i.invariant.room)

pub put_dump_if-requires-clause-some : goal.put_dump_if-requires-clause-some
put_dump_if-requires-clause-some c t =
    let way = AllOf sort.Dump in
    let more = is_one_more way c.args.wires.now.exits c.span-span.result c.loop-i.i c.span-span.ensures c.loop-i-test.true (sym c.goes.ensures ∙ t) in
    omega (arith, more, c.loop-i.invariant.left, c.requires.dumps)

pub loop-i-preserved : goal.loop-i-preserved
loop-i-preserved c =
    let p = is_out (AllOf sort.Dump) c.args.wires.now.exits in
    let i = c.loop-i.i in
    let before = c.args.out.now.items in
    let one = ap (λ b. cond {A = ℕ} b 1 0) c.goes.ensures in record {
      items = λ dump same.
          let m = Dump dump in
          c.put_dump_if.ensures.items dump (c.loop-i.invariant.same dump same)
          ∙ ap (λ xs. xs ++ cond c.goes.result ((i, m) ∷ []) []) (c.loop-i.invariant.items dump same)
          ∙ ap (λ b. (before ++ send_all m (filter p (below i))) ++ cond b ((i, m) ∷ []) []) c.goes.ensures ∙ sent_more m p before i;
      many = omega (arith, one, many_more p i, c.put_dump_if.ensures.many, c.loop-i.invariant.many);
      room = c.put_dump_if.ensures.room ∙ c.loop-i.invariant.room;
      left = omega (arith, one, many_more p i, c.put_dump_if.ensures.left, c.loop-i.invariant.left);
      same = λ dump same. c.put_dump_if.ensures.still dump (c.loop-i.invariant.same dump same);
    }

pub returns-clause-items : goal.returns-clause-items
returns-clause-items c dump same =
    let exits = c.args.wires.now.exits in
    let p = is_out (AllOf sort.Dump) exits in
    let all = at_end p (length exits) c.loop-i.i c.span-span.result c.span-span.ensures c.loop-i-test.false c.loop-i.auto.i-end in
    c.loop-i.invariant.items dump same ∙ ap (λ ls. c.args.out.now.items ++ send_all (Dump dump) ls) all
