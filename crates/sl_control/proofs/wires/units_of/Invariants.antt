use Rattle.std.proofs.Common.{◌≡◌, map, take}
use Rattle.std.specs.Prelude.{filter}
use Rattle.sl_layout.specs.declared.actor.Sort.TheVariants.{Poll}
use Rattle.sl_layout.specs.Net.{link_of, same_sort}
use Rattle.sl_layout.specs.Serving.{serving}
use Rattle.sl_control.specs.Wires.{unit_wires, unheard}
use Rattle.sl_control.proofs.wires.units_of.Given as goal

abbrev pub invariant-loop-link : goal.invariant-loop-link
invariant-loop-link l = l.units.items ≡ map (λ k. unheard (unit_wires l.net (serving l.net l.actor k))) (filter (λ k. same_sort (link_of l.net k).sort Poll) (take l.link-index l.link-items))
