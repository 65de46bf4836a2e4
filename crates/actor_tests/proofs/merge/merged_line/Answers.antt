use Rattle.std.proofs.Common.{◌≡◌, ℕ, ◌≤◌, List, length, map, ap, sym, ◌∙◌, subst, arith}
use Rattle.std.specs.List.{All}
use Rattle.std.proofs.lemmas.List.{length-map}
use Rattle.std.proofs.lemmas.List.Elements.{All-map}
use Rattle.sl_actor.specs.Follows.{ActorView}
use Rattle.sl_actor.specs.Held.{held}
use Rattle.sl_actor.specs.Made.{EachFollows}
use Rattle.world_tests.specs.Relays.{RelayState, relay_state, relay_rules}
use Rattle.actor_tests.proofs.merge.merged_line.Goals as goal

pub merge-requires-clause-follows : goal.merge-requires-clause-follows
merge-requires-clause-follows g c =
    subst (λ (s : List RelayState). EachFollows relay_rules s (map held c.in_ok-actors.actors.items)) (sym (ap (map relay_state) c.as_slice.ensures.value ∙ c.in_ok-first.ensures.states)) c.in_ok-actors.ensures.way.follow

pub merge-requires-clause-few : goal.merge-requires-clause-few
merge-requires-clause-few g c =
    let actors = map held c.in_ok-actors.actors.items in
    let four : length actors ≡ 4 = sym (length-map actors (λ a. a.counts.ins)) ∙ ap length c.in_ok-actors.ensures.way.wired.counts.ins_are in
    let short : All (λ (a : ActorView RelayState ℕ). length a.log ≤ 100) actors = All-map (λ (a : ActorView RelayState ℕ). length a.log ≤ 100) held c.in_ok-actors.actors.items c.in_ok-actors.ensures.short in
    let few = c.made_actors_are_wired.ensures.few 100 actors short in
    omega (arith, four, few)
