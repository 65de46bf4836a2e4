use Rattle.std.proofs.Common.{◌≡◌, ℕ, ◌+◌, ◌<◌, ◌≤◌, ◌++◌, ◌∷◌, [], List, length, get_or, map, take, subst, sym, ap, ◌∙◌, append-nil}
use Rattle.std.specs.Prelude.{flat_map}
use Rattle.std.specs.List.{All}
use Rattle.std.proofs.lemmas.Grind.{flat_map-append}
use Rattle.std.proofs.lemmas.List.{take_more}
use Rattle.sl_layout.specs.declared.actor.ActorId.{ActorId}
use Rattle.sl_layout.specs.declared.actor.ActorId.TheVariants.{Observer}
use Rattle.sl_layout.specs.declared.actor.LinkPart.{LinkPart}
use Rattle.sl_parts.specs.Parts.{Parts}
use Rattle.sl_parts.specs.Valid.{IsValid}
use Rattle.sl_layout.specs.Net.{Incoming, incoming, actors_of, links_to, place_of}
use Rattle.sl_layout.specs.Roster.{IsFew, IsActor, link_by}
use Rattle.sl_layout.proofs.Ends.{incoming_few}
use Rattle.sl_layout.proofs.links.list_links.Goals as goal

senders-few : (parts : Parts) (a : ActorId) (all : List Incoming) → IsValid parts → length parts.hosts ≤ 128 → IsActor parts a → all ≡ incoming parts a → All (λ (i : Incoming). IsFew i.0) all
senders-few parts a all v h k is = subst (All (λ (i : Incoming). IsFew i.0)) (sym is) (incoming_few parts a v h k)

-- the links to one more actor
links-more : (parts : Parts) (actors : List ActorId) (i : ℕ) (d : ActorId) (before after : List LinkPart) (all : List Incoming) → i < length actors → place_of (get_or actors i d) (actors_of parts) ≡ i
    → all ≡ incoming parts (get_or actors i d) → before ≡ flat_map (links_to parts (actors_of parts)) (take i actors) → after ≡ before ++ map (link_by parts i) all
    → after ≡ flat_map (links_to parts (actors_of parts)) (take (i + 1) actors)
links-more parts actors i d before after all within placed is before_is after_is =
    let f = links_to parts (actors_of parts) in
    let a = get_or actors i d in
    after_is ∙ ap (λ ls. before ++ map (link_by parts i) ls) is ∙ ap (λ n. before ++ map (link_by parts n) (incoming parts a)) (sym placed) ∙ ap (λ ls. ls ++ f a) before_is
    ∙ sym (ap (flat_map f) (take_more actors i d within) ∙ flat_map-append f (take i actors) (a ∷ []) ∙ ap (λ r. flat_map f (take i actors) ++ r) (append-nil (f a)))

pub add_links-requires : goal.add_links-requires
add_links-requires c =
    let parts = c.args.roster.now in
    let a = get_or c.actors-actors.result.now c.loop-i.i Observer in
    let few : length parts.hosts ≤ 128 = subst (λ (p : Parts). length p.hosts ≤ 128) c.layout.ensures c.parts-parts.ensures.few_hosts in
    senders-few parts a _ c.actors-actors.ensures.valid few (c.actors-actors.ensures.each c.loop-i.i Observer c.loop-i-test.true)
    (c.as_slice.ensures.value ∙ c.in_ok-all.ensures ∙ ap (λ p. incoming p a) c.layout-in-loop-i.ensures)

pub loop-i-preserved : goal.loop-i-preserved
loop-i-preserved c =
    let parts = c.args.roster.now in
    let actors = c.actors-actors.result.now in
    let a = get_or actors c.loop-i.i Observer in
    links-more parts actors c.loop-i.i Observer c.loop-i.links.items _ _ c.loop-i-test.true (c.actors-actors.ensures.placed c.loop-i.i Observer c.loop-i-test.true)
    (c.as_slice.ensures.value ∙ c.in_ok-all.ensures ∙ ap (λ p. incoming p a) c.layout-in-loop-i.ensures) c.loop-i.invariant c.in_ok-add_links.ensures
