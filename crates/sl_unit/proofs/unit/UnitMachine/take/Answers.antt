use Rattle.std.proofs.Common.{◌≡◌, length, subst, sym, ap, ◌∙◌}
use Rattle.std.specs.Prelude.{true}
use Rattle.sl_machine.specs.Machine.{is_fitting}
use Rattle.sl_unit.specs.declared.wires.Entrance.TheVariants.{Host, Cable, Crossbar, Init, Poll}
use Rattle.sl_unit.specs.Wires.{is_poll}
use Rattle.sl_unit.specs.Units.{unit_state}
use Rattle.sl_unit.proofs.Fitting.{take_fits}
use Rattle.sl_unit.proofs.unit.UnitMachine.take.Goals as goal

pub returns-in-Host-clause-fitting : goal.returns-in-Host-clause-fitting
returns-in-Host-clause-fitting c = let s = unit_state c.args.self.now in
    subst (λ ps. is_fitting (length s.wires.exits) ps ≡ true) (sym c.take_host.ensures.puts) (take_fits Host s c.args.m)

pub returns-in-Cable-clause-fitting : goal.returns-in-Cable-clause-fitting
returns-in-Cable-clause-fitting c = let s = unit_state c.args.self.now in
    subst (λ ps. is_fitting (length s.wires.exits) ps ≡ true) (sym c.take_cable.ensures.puts) (take_fits (Cable c.from.result) s c.args.m)

pub returns-in-Crossbar-clause-fitting : goal.returns-in-Crossbar-clause-fitting
returns-in-Crossbar-clause-fitting c = let s = unit_state c.args.self.now in
    subst (λ ps. is_fitting (length s.wires.exits) ps ≡ true) (sym c.take_crossbar.ensures.puts) (take_fits (Crossbar c.from-in-Crossbar.result c.in-Crossbar.own) s c.args.m)

pub returns-in-Init-clause-fitting : goal.returns-in-Init-clause-fitting
returns-in-Init-clause-fitting c = let s = unit_state c.args.self.now in
    subst (λ ps. is_fitting (length s.wires.exits) ps ≡ true) (sym c.take_init.ensures.puts) (take_fits Init s c.args.m)

pub returns-in-Poll-clause-fitting : goal.returns-in-Poll-clause-fitting
returns-in-Poll-clause-fitting c = let s = unit_state c.args.self.now in
    subst (λ ps. is_fitting (length s.wires.exits) ps ≡ true) (sym c.take_polled.ensures.puts) (take_fits Poll s c.args.m)

pub take_polled-requires-clause-dumps : goal.take_polled-requires-clause-dumps
take_polled-requires-clause-dumps c = let r = c.args.self.now.ready c.args.link c.requires.ready in
    r (ap is_poll (sym c.entrance.ensures.entrance ∙ c.in-Poll.is))
