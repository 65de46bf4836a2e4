use Rattle.std.proofs.Common.{◌≡◌, ◌<◌, ap, subst, sym, ◌∙◌, length, get_or}
use Rattle.std.specs.List.{All}
use Rattle.sl_layout.specs.Net.{actors_of, place_of}
use Rattle.sl_layout.specs.Roster.{IsActor}
use Rattle.sl_layout.proofs.Actors.{all-actors, each-place}
use Rattle.sl_layout.proofs.roster.Roster.actors.Goals as goal

pub returns-clause-each : goal.returns-clause-each
returns-clause-each c =
    let parts = c.args.self.now in
    let e : c.as_slice.result.now ≡ actors_of parts = c.as_slice.ensures.value ∙ c.self.invariant.actors_are ∙ ap actors_of c.self.view_is in
    subst (All (IsActor parts)) (sym e) (all-actors parts)

pub returns-clause-placed : goal.returns-clause-placed
returns-clause-placed c = λ i d h.
    let parts = c.args.self.now in
    let e : c.as_slice.result.now ≡ actors_of parts = c.as_slice.ensures.value ∙ c.self.invariant.actors_are ∙ ap actors_of c.self.view_is in
    subst (λ xs. place_of (get_or xs i d) (actors_of parts) ≡ i) (sym e) (each-place parts i d (subst (λ xs. i < length xs) e h))
