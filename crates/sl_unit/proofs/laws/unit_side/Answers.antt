use Rattle.std.proofs.Common.{◌≡◌, ◌<◌, ◌∙◌, ap, get_or, length, subst, sym}
use Rattle.std.proofs.lemmas.List.{get_or-map}
use Rattle.sl_layout.specs.declared.actor.ActorId.TheVariants.{Unit as OfUnit}
use Rattle.sl_layout.specs.declared.actor.UnitId.{UnitId}
use Rattle.sl_layout.specs.declared.actor.Side.TheVariants.{Ingress}
use Rattle.sl_layout.specs.Net.{actor_of, nobody, units}
use Rattle.sl_unit.specs.Made.{side_of, unit_at}
use Rattle.sl_unit.proofs.laws.unit_side.Goals as goal

pub returns : goal.returns
returns c =
    let net = c.args.net.now in
    let ids = c.units.result.now in
    let i = c.args.unit in
    let none : UnitId = record { device = 0; port = 0; side = Ingress } in
    let low : i < length ids = subst (λ n. i < n) (sym c.units.ensures.len) c.requires in
    let at : unit_at net i ≡ OfUnit (get_or ids i none) =
    sym (get_or-map (actor_of net) (units net) i 0 nobody c.requires) ∙ sym (ap (λ xs. get_or xs i nobody) c.units.ensures.units) ∙ get_or-map OfUnit ids i none nobody low in
    ap side_of at
