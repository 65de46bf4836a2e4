use Rattle.std.proofs.Common.{ℕ, List, sym, ap, ◌∙◌, map, arith}
use Rattle.std.specs.Prelude.{filter}
use Rattle.std.proofs.lemmas.List.{take_all}
use Rattle.std.proofs.lemmas.Simd.{map-map}
use Rattle.sl_layout.specs.declared.actor.Sort.TheVariants.{Poll}
use Rattle.sl_layout.specs.Net.{link_of, links_out, same_sort, unit_place}
use Rattle.sl_layout.specs.Serving.{serving}
use Rattle.sl_value.specs.Valued.{no_values}
use Rattle.sl_value.proofs.control.kept_units.Goals as goal

pub returns : goal.returns
returns c =
    let net = c.args.net.now in
    c.loop-link.invariant ∙ ap (λ (ls : List ℕ). map (λ k. no_values (unit_place net (link_of net k).to)) (filter (λ k. same_sort (link_of net k).sort Poll) ls))
    (take_all c.loop-link.link-index c.links_from-link-items.result.now (omega arith) ∙ c.links_from-link-items.ensures.links)
    ∙ sym (map-map (λ v. no_values (unit_place net v.unit)) (serving net c.args.actor) (links_out net c.args.actor Poll))
