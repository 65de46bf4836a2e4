use Rattle.std.proofs.Common.{◌<◌, [], ap, subst, sym, ◌∙◌, length, get_or}
use Rattle.std.specs.Prelude.{slice_index}
use Rattle.std.proofs.lemmas.List.{get_or-map}
use Rattle.sl_layout.specs.Net.{units}
use Rattle.sl_layout.specs.Wiring.{upstream_of}
use Rattle.sl_net.proofs.net.Net.upstream.Goals as goal

pub returns : goal.returns
returns c =
    let net = c.self.inside.units in
    let unit = c.args.unit in
    c.row.ensures ∙ ap (λ xs. get_or xs unit []) (c.as_slice.ensures.value ∙ c.self.invariant.upstream_is)
    ∙ get_or-map (upstream_of net) (units net) unit 0 [] (subst (λ n. unit < length (units n)) (sym c.self.view_is) c.requires)
    ∙ ap (λ n. upstream_of n (slice_index (units n) unit)) c.self.view_is
