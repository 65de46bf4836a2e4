use Rattle.std.proofs.Common.{◌≡◌, ◌<◌, ap, subst, sym, ◌∙◌, length}
use Rattle.std.specs.List.{All}
use Rattle.sl_layout.specs.Net.{units, is_unit, actor_of}
use Rattle.sl_layout.proofs.Grouping.{low_filter}
use Rattle.sl_layout.proofs.units.Units.actors.Goals as goal

pub returns-clause-each : goal.returns-clause-each
returns-clause-each c =
    let net = c.args.self.now in
    let e : c.as_slice.result.now ≡ units net = c.as_slice.ensures.value ∙ c.self.invariant.actors_are ∙ ap units c.self.view_is in
    subst (All (λ a. a < length net.actors)) (sym e) (low_filter (λ a. is_unit (actor_of net a)) (length net.actors))
