use Rattle.std.proofs.Common.{◌≡◌, List, ap, ◌∙◌, arith, length, zero-add}
use Rattle.std.specs.Prelude.{slice_index_or}
use Rattle.std.proofs.lemmas.List.FromFn.{get_or-map-range_with_len, length-map-range_with_len}
use Rattle.sl_machine.specs.declared.wiring.Link.{Link}
use Rattle.sl_machine.specs.Plan.{Plan}
use Rattle.sl_layout.specs.Wiring.{wired_link, wired_links}
use Rattle.sl_net.proofs.net.Net.wire.Goals as goal

pub index-requires : goal.index-requires
index-requires c =
    let net = c.args.self.now in
    let links = ap (λ (p : Plan). length p.links) (c.wired.view_is ∙ c.wiring-wired.ensures.now) ∙ length-map-range_with_len (wired_link net) 0 (length net.links) in
    omega (arith, links, c.requires, c.wired.inside.links.ok)

pub returns : goal.returns
returns c =
    let net = c.args.self.now in
    let links : c.wired.inside.links.items ≡ wired_links net = ap (λ (p : Plan). p.links) (c.wired.view_is ∙ c.wiring-wired.ensures.now) in
    c.index.ensures ∙ ap (λ (ls : List Link). slice_index_or ls c.args.link c.index.result.now) links ∙ get_or-map-range_with_len (wired_link net) 0 (length net.links) c.args.link _ c.index.result.now c.requires (zero-add c.args.link)
