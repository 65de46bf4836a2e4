use Rattle.std.proofs.Common.{◌≡◌, ◌<◌, ℕ, List, ap, sym, subst, ◌∙◌, length, get_or, map, arith}
use Rattle.std.specs.Prelude.{filter}
use Rattle.std.specs.List.{All}
use Rattle.sl_layout.specs.declared.actor.ActorId.{ActorId}
use Rattle.sl_parts.specs.Parts.{below}
use Rattle.sl_layout.specs.Net.{is_unit, nobody, actor_of, units}
use Rattle.sl_layout.specs.Units.{HasPlaces}
use Rattle.sl_layout.proofs.Grouping.{few_filter, low_filter}
use Rattle.sl_layout.proofs.units.Units.new.Goals as goal

abbrev units_among : List ActorId → List ℕ
units_among actors = filter (λ a. is_unit (get_or actors a nobody)) (below (length actors))

pub place_numbers-requires-clause-numbers : goal.place_numbers-requires-clause-numbers
place_numbers-requires-clause-numbers c =
    let actors = c.actors-all.result.now in
    subst (All (λ n. n < length actors)) (sym (c.as_slice.ensures.value ∙ c.in_ok-ids.ensures.numbers)) (low_filter (λ a. is_unit (get_or actors a nobody)) (length actors))

pub place_numbers-requires-clause-few : goal.place_numbers-requires-clause-few
place_numbers-requires-clause-few c =
    let actors = c.actors-all.result.now in
    omega (arith, ap length (c.as_slice.ensures.value ∙ c.in_ok-ids.ensures.numbers), few_filter (λ a. is_unit (get_or actors a nobody)) (length actors), c.actors-all.ensures.few)

pub invariant_of-result : goal.invariant_of-result
invariant_of-result c =
    let net = c.args.wires in
    let actors : c.actors-all.result.now ≡ net.actors = c.actors-all.ensures.now ∙ sym (ap (λ n. n.actors) c.roster.ensures) in
    let numbers : c.in_ok-ids.actors.items ≡ units net = c.in_ok-ids.ensures.numbers ∙ ap units_among actors in
    record {
      actors_are = numbers;
      ids_are = c.in_ok-ids.ensures.ids ∙ ap (λ xs. map (λ a. get_or xs a nobody) c.in_ok-ids.actors.items) actors ∙ ap (map (actor_of net)) numbers;
      places_are = subst (λ n. HasPlaces 0 n (units net) c.in_ok-places.places.items) (ap length actors)
          (subst (λ xs. HasPlaces 0 (length c.actors-all.result.now) xs c.in_ok-places.places.items) (c.as_slice.ensures.value ∙ numbers) c.in_ok-places.ensures);
    }
