use Rattle.std.proofs.Common.{◌++◌, [], ℕ, List, Some, ap, subst, sym, ◌∙◌, rules}
use Rattle.std.specs.Prelude.{flat_map, cond, ◌==◌}
use Rattle.sl_control.specs.declared.known.Known.{Known}
use Rattle.sl_machine.specs.Machine.{send_all}
use Rattle.sl_wire.specs.declared.message.Msg.TheVariants.{Frame}
use Rattle.sl_control.specs.Control.{ControlView, ask_puts}
use Rattle.sl_control.specs.Joined.{IsJoined}
use Rattle.sl_control.proofs.Fitting.{asked-joined, inits-fit, asks-fit, added-to-none}
use Rattle.sl_control.proofs.control.ControlMachine.take.Goals as goal

pub returns-in-Begin-clause-fitting : goal.returns-in-Begin-clause-fitting
returns-in-Begin-clause-fitting c =
    let s = c.self.inside in
    let first = c.args.link == 0 in
    let init = Frame c.initiation-frame.result in
    added-to-none c.args.self.now.counts.outs s.outs c.args.out.now.items c.put_inits.new.out.items (cond first (send_all init s.inits.items) [])
    (ap (λ (v : ControlView). v.counts.outs) c.self.view_is) c.requires.empty
    (c.put_inits.ensures.puts ∙ ap (λ (os : List ℕ). c.args.out.now.items ++ cond first (send_all init os) []) c.deref.ensures.value)
    (inits-fit s.outs init s.inits.items first c.self.invariant.0.inits_apart)

pub invariant_of-self-in-Notice : goal.invariant_of-self-in-Notice
invariant_of-self-in-Notice c =
    let s = c.self-in-Notice.inside in (
      subst (λ (rs : List Known). IsJoined s.outs s.inits.items s.done rs) (sym c.ask_one.ensures.units)
          (asked-joined s.outs s.inits.items s.done (Some c.args.link) s.units.items c.self-in-Notice.invariant.0),
      record { empty = c.self-in-Notice.invariant.1.empty; room = λ n. search rules; report = λ n. search rules },
    )

pub returns-in-Notice-clause-fitting : goal.returns-in-Notice-clause-fitting
returns-in-Notice-clause-fitting c =
    let s = c.self-in-Notice.inside in
    added-to-none c.args.self.now.counts.outs s.outs c.args.out.now.items c.ask_one.new.out.items (flat_map (ask_puts (Some c.args.link)) s.units.items)
    (ap (λ (v : ControlView). v.counts.outs) c.self-in-Notice.view_is) c.requires.empty c.ask_one.ensures.puts
    (asks-fit s.outs (Some c.args.link) s.units.items c.self-in-Notice.invariant.0.polls_apart)
