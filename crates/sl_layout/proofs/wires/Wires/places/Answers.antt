use Rattle.std.proofs.Common.{arith, ap, ◌∙◌, length}
use Rattle.std.proofs.lemmas.List.FromFn.{length-map-range_with_len}
use Rattle.sl_layout.specs.Ends.{place_at}
use Rattle.sl_layout.proofs.wires.Wires.places.Goals as goal

pub returns-clause-len : goal.returns-clause-len
returns-clause-len c =
    let net = c.args.self.now in
    ap length (c.places.ensures ∙ c.sorted.ensures.places) ∙ length-map-range_with_len (place_at net c.args.end) 0 (length net.links)

pub returns-clause-few : goal.returns-clause-few
returns-clause-few c = omega (arith, returns-clause-len c, c.sorted.ensures.few)
