use Rattle.std.proofs.Common.{List, ap, subst, sym, arith, rules, length}
use Rattle.std.specs.Prelude.{flat_map}
use Rattle.sl_control.specs.declared.known.Known.{Known}
use Rattle.sl_control.specs.Control.{ControlView, dump_puts}
use Rattle.sl_control.specs.Joined.{IsJoined}
use Rattle.sl_control.proofs.Fitting.{answered-joined, answers-fit, added-to-none, room-for-two}
use Rattle.sl_control.proofs.control.Control.take_dump.Goals as goal

pub answer_dump-requires-clause-room : goal.answer_dump-requires-clause-room
answer_dump-requires-clause-room c = λ some.
    let two = room-for-two c.self.inside.outs c.self.inside.done c.self.inside.units.items c.self.invariant.0.dones_apart some in
    let outs = ap (λ (v : ControlView). v.counts.outs) c.self.view_is in
    let none = ap length c.requires.empty in
    omega (arith, two, outs, none, c.requires.room)

pub invariant_of-self : goal.invariant_of-self
invariant_of-self c =
    let s = c.self.inside in (
      subst (λ (rs : List Known). IsJoined s.outs s.inits.items s.done rs) (sym c.answer_dump.ensures.units)
          (answered-joined s.outs s.inits.items s.done (record { bits = s.width.bits; ring = s.ring }) c.args.link c.args.dump.now s.units.items c.self.invariant.0),
      record { empty = c.answer_dump.ensures.left; room = λ n. search rules; report = λ n. search rules },
    )

pub returns-clause-fitting : goal.returns-clause-fitting
returns-clause-fitting c =
    let s = c.self.inside in
    added-to-none c.args.self.now.counts.outs s.outs c.args.out.now.items c.answer_dump.new.out.items (flat_map (dump_puts (record { bits = s.width.bits; ring = s.ring }) s.done c.args.link c.args.dump.now) s.units.items)
    (ap (λ (v : ControlView). v.counts.outs) c.self.view_is) c.requires.empty c.answer_dump.ensures.puts
    (answers-fit s.outs (record { bits = s.width.bits; ring = s.ring }) s.done c.args.link c.args.dump.now s.units.items c.self.invariant.0.dones_apart c.self.invariant.0.dumps_apart)
