use Rattle.std.proofs.Common.{List, ap, subst, sym, rules}
use Rattle.std.specs.Prelude.{None, flat_map}
use Rattle.sl_control.specs.declared.known.Known.{Known}
use Rattle.sl_control.specs.Control.{ControlView, ask_puts}
use Rattle.sl_control.specs.Joined.{IsJoined}
use Rattle.sl_control.proofs.Fitting.{asked-joined, asks-fit, added-to-none}
use Rattle.sl_control.proofs.control.ControlMachine.act.Goals as goal

pub invariant_of-self-2 : goal.invariant_of-self-2
invariant_of-self-2 c =
    let s = c.self.inside in (
      subst (λ (rs : List Known). IsJoined s.outs s.inits.items s.done rs) (sym c.ask_all.ensures.units) (asked-joined s.outs s.inits.items s.done None s.units.items c.self.invariant.0),
      record { empty = c.self.invariant.1.empty; room = λ n. search rules; report = λ n. search rules },
    )

pub returns-clause-fitting : goal.returns-clause-fitting
returns-clause-fitting c =
    let s = c.self.inside in
    added-to-none c.args.self.now.counts.outs s.outs c.args.out.now.items c.ask_all.new.out.items (flat_map (ask_puts None) s.units.items) (ap (λ (v : ControlView). v.counts.outs) c.self.view_is)
    c.requires.empty c.ask_all.ensures.puts (asks-fit s.outs None s.units.items c.self.invariant.0.polls_apart)
