use Rattle.std.proofs.Common.{◌+◌, get_or, take, ap, sym, subst, ◌∙◌}
use Rattle.std.specs.Prelude.{option_map}
use Rattle.sl_parts.specs.declared.parts.CablePart.{CablePart}
use Rattle.sl_parts.specs.declared.fault.NetFault.TheVariants.{N5}
use Rattle.sl_parts.specs.Fault.{reuses_port}
use Rattle.sl_parts.specs.Ports.{HasEnds}
use Rattle.sl_parts.proofs.Clash.{clash_here, clash_later}
use Rattle.sl_parts.proofs.Tables.{cable_clash, cable_fits, cable_added}
use Rattle.sl_parts.proofs.ports.join_cables.Goals as goal

abbrev none : CablePart
none = record { a = record { device = 0; port = 0 }; b = record { device = 0; port = 0 }; version = 0 }

pub returns-then-not-add_cable-clause-err : goal.returns-then-not-add_cable-clause-err
returns-then-not-add_cable-clause-err c = λ _.
    let cables = c.args.cables.now in
    let at = c.requires.near c.loop-i.i none c.loop-i-test.true in
    ap (option_map N5) (sym c.loop-i.invariant.clash ∙ clash_here reuses_port cables c.loop-i.i none c.loop-i-test.true
    (cable_clash c.args.devices c.loop-i.i cables c.loop-i.ends.items (get_or cables c.loop-i.i none) c.add_cable.result c.loop-i.invariant.ends at.0 at.1 c.add_cable.ensures.free c.if-not-add_cable.true))

pub loop-i-preserved : goal.loop-i-preserved
loop-i-preserved c =
    let cables = c.args.cables.now in
    let at = c.requires.near c.loop-i.i none c.loop-i-test.true in
    record {
      clash = clash_later reuses_port cables c.loop-i.i none c.loop-i-test.true
          (cable_fits c.args.devices c.loop-i.i cables c.loop-i.ends.items (get_or cables c.loop-i.i none) c.add_cable.result c.loop-i.invariant.ends at.0 at.1 c.add_cable.ensures.free c.if-not-add_cable.false) ∙ c.loop-i.invariant.clash;
      ends = subst (HasEnds c.args.devices (take (c.loop-i.i + 1) cables)) (sym c.add_cable.ensures.joined)
          (cable_added c.args.devices c.loop-i.i cables c.loop-i.ends.items none c.add_cable.result c.loop-i-test.true c.loop-i.invariant.ends at.0 at.1 c.add_cable.ensures.free c.if-not-add_cable.false);
    }
