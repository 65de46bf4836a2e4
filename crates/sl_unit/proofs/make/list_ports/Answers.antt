use Rattle.std.proofs.Common.{◌++◌, ◌∷◌, [], ap, sym, ◌∙◌, map, zero-add}
use Rattle.std.proofs.lemmas.List.FromFn.{map-range_with_len_more}
use Rattle.sl_parts.specs.Parts.{below}
use Rattle.sl_route.specs.Route.{next_port}
use Rattle.sl_unit.proofs.make.list_ports.Goals as goal

pub loop-host-preserved : goal.loop-host-preserved
loop-host-preserved c =
    let net = c.args.net.now in
    let f = next_port net.parts c.args.device in
    let i = c.loop-host.host in
    let pushed = c.in_ok-push.ensures.items in
    let so_far = ap (λ xs. xs ++ c.next_port.result ∷ []) c.loop-host.invariant in
    let port = ap (λ x. map f (below i) ++ x ∷ []) (c.next_port.ensures net c.requires.routes c.requires.device) in
    pushed ∙ so_far ∙ port ∙ sym (map-range_with_len_more f 0 i _ (zero-add i))
