use Rattle.std.specs.Prelude.{IfOk}
use Rattle.sl_parts.specs.Parts.{below}
use Rattle.sl_layout.specs.Groups.{grouped, places_in_groups}
use Rattle.std.proofs.Common.{List, ℕ, ◌≡◌, ◌≤◌, arith, ap, subst, ◌∙◌, length, map}
use Rattle.sl_layout.specs.Ends.{actor_at}
use Rattle.sl_layout.specs.Net.{net_of, actors_of}
use Rattle.sl_layout.proofs.Ends.{few_keys, keys-low, lists-sorted, places-sorted}
use Rattle.sl_layout.proofs.wires.group_by.Goals as goal

pub group-requires-clause-keys : goal.group-requires-clause-keys
group-requires-clause-keys c =
    let keys : c.as_slice.result.now ≡ map (actor_at c.args.end) (net_of c.args.roster.now).links = c.as_slice.ensures.value ∙ c.in_ok-keys.ensures ∙ ap (map (actor_at c.args.end)) c.requires in
    rw (keys, c.actors-actors.ensures.now) (keys-low c.args.roster.now c.args.end c.actors-actors.ensures.valid)

pub group-requires-clause-few : goal.group-requires-clause-few
group-requires-clause-few c =
    let keys : c.as_slice.result.now ≡ map (actor_at c.args.end) (net_of c.args.roster.now).links = c.as_slice.ensures.value ∙ c.in_ok-keys.ensures ∙ ap (map (actor_at c.args.end)) c.requires in
    let few : length (actors_of c.args.roster.now) ≤ 1217 = subst (λ xs. length xs ≤ 1217) c.actors-actors.ensures.now c.actors-actors.ensures.few in
    omega (arith, ap length keys, few_keys c.args.roster.now c.args.end c.actors-actors.ensures.valid few)

pub returns : goal.returns
returns c =
    let net = net_of c.args.roster.now in
    let end = c.args.end in
    let keys : c.as_slice.result.now ≡ map (actor_at end) net.links = c.as_slice.ensures.value ∙ c.in_ok-keys.ensures ∙ ap (map (actor_at end)) c.requires in
    let count : length c.actors-actors.result.now ≡ length net.actors = ap length c.actors-actors.ensures.now in
    record {
      lists = subst (λ (xs : List (List ℕ)). IfOk c.group.result (λ g. g.lists ≡ xs)) (ap (λ ks. map (grouped ks (length ks)) (below (length c.actors-actors.result.now))) keys
          ∙ ap (λ n. map (grouped (map (actor_at end) net.links) (length (map (actor_at end) net.links))) (below n)) count ∙ lists-sorted net end (length net.actors)) c.group.ensures.lists;
      places = subst (λ (xs : List ℕ). IfOk c.group.result (λ g. g.places ≡ xs)) (ap (λ ks. map (places_in_groups ks) (below (length ks))) keys ∙ places-sorted net end) c.group.ensures.places;
    }
