use Rattle.std.proofs.Common.{◌≡◌, map, take}
use Rattle.std.specs.Prelude.{filter}
use Rattle.sl_layout.specs.declared.actor.Sort.TheVariants.{Poll}
use Rattle.sl_layout.specs.Net.{link_of, same_sort, unit_place}
use Rattle.sl_value.specs.Valued.{kept_view, no_values}
use Rattle.sl_value.proofs.control.kept_units.Given as goal

abbrev pub invariant-loop-link : goal.invariant-loop-link
invariant-loop-link l = map kept_view l.kept.items ≡ map (λ k. no_values (unit_place l.net (link_of l.net k).to)) (filter (λ k. same_sort (link_of l.net k).sort Poll) (take l.link-index l.link-items))
