use Rattle.std.proofs.Common.{◌≡◌, ℕ, List, sym, ap, ◌∙◌, map, arith}
use Rattle.std.specs.Prelude.{filter}
use Rattle.std.proofs.lemmas.List.{take_all}
use Rattle.sl_layout.specs.declared.actor.Sort.TheVariants.{Poll}
use Rattle.sl_layout.specs.Net.{link_of, links_out, same_sort}
use Rattle.sl_layout.specs.Serving.{serving}
use Rattle.std.proofs.lemmas.Simd.{map-map}
use Rattle.sl_control.specs.Wires.{unit_wires, unheard}
use Rattle.sl_control.proofs.wires.units_of.Goals as goal

pub returns : goal.returns
returns c =
    let net = c.args.net.now in
    let all : c.loop-link.units.items ≡ map (λ k. unheard (unit_wires net (serving net c.args.actor k))) (links_out net c.args.actor Poll) =
    c.loop-link.invariant ∙ ap (λ (ls : List ℕ). map (λ k. unheard (unit_wires net (serving net c.args.actor k))) (filter (λ k. same_sort (link_of net k).sort Poll) ls))
    (take_all c.loop-link.link-index c.links_from-link-items.result.now (omega arith) ∙ c.links_from-link-items.ensures.links) in
    all ∙ sym (map-map (λ v. unheard (unit_wires net v)) (serving net c.args.actor) (links_out net c.args.actor Poll))
