use Rattle.std.proofs.Common.{ap, sym, subst, ◌∙◌}
use Rattle.sl_machine.specs.Plan.{IsSound}
use Rattle.sl_layout.specs.Wiring.{plan_of}
use Rattle.sl_layout.proofs.Ends.{sound_wires}
use Rattle.sl_net.proofs.net.assemble.Goals as goal

pub invariant_of-result : goal.invariant_of-result
invariant_of-result c = record {
  wiring_is = c.in_ok-wiring.ensures ∙ ap plan_of (sym c.in_ok-units.ensures);
  sound = subst IsSound (ap plan_of c.wires.view_is ∙ sym c.in_ok-wiring.ensures) (sound_wires c.wires.inside.roster c.wires.inside.links.items c.wires.inside.into c.wires.inside.from c.wires.invariant);
  upstream_is = c.in_ok-upstream.ensures;
}
