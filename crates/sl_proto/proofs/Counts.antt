-- The numbers of the links and actions of the nodes.
use Rattle.std.proofs.Common.{◌≡◌, ℕ, suc, ◌+◌, ◌-◌, ◌<◌, ◌≤◌, List, [], ◌∷◌, ◌++◌, length, sym, ap, subst, ◌∙◌, Option, Some, get_or, map, arith, inl, inr, zero-add}
use Rattle.std.specs.Prelude.{◌⊎◌, true, false, if◌then◌else◌, nat_eq, slice_index}
use Rattle.std.proofs.lemmas.Bool.Decides.{eqb_tells}
use Rattle.std.proofs.lemmas.List.{length-map, map_push}
use Rattle.std.proofs.lemmas.Option.{slice_get-get_or}
use Rattle.sl_machine.specs.Machine.{Counts}
use Rattle.sl_machine.specs.Fit.{HasCounts}
use Rattle.sl_layout.specs.declared.actor.ActorId.{ActorId}
use Rattle.sl_layout.specs.declared.actor.ActorId.TheVariants.{Observer, Unit as OfUnit, Host as OfHost}
use Rattle.sl_layout.specs.declared.actor.UnitId.{UnitId}
use Rattle.sl_layout.specs.declared.actor.Side.{Side}
use Rattle.sl_layout.specs.declared.actor.Side.TheVariants.{Ingress, Egress}
use Rattle.sl_net.specs.Input.{Input}
use Rattle.sl_parts.specs.Parts.{below}
use Rattle.sl_layout.specs.Net.{Net, net_of, actor_of, nobody, actors_of, place_of, links_into, links_from, link_numbers, place_in, units, unit_place}
use Rattle.sl_net.specs.Wired.{IsWired}
use Rattle.sl_layout.specs.Wiring.{plan_of, actions_of, wired_link, wired_links}
use Rattle.sl_parts.specs.Lists.{Member}
use Rattle.sl_net.specs.Ways.{HasWays}
use Rattle.sl_layout.proofs.Actors.{place-at}
use Rattle.std.proofs.lemmas.Simd.{map-map}
use Rattle.std.proofs.lemmas.List.FromFn.{length-range_with_len, map-range_with_len_more}
use Rattle.sl_model.proofs.Bounded.SortCounts.{all_at}
use Rattle.sl_unit.specs.Step.{UnitState, counts_of}
use Rattle.sl_layout.specs.Devices.{device_of}
use Rattle.sl_unit.specs.Made.{wires_of, entrance_by, exit_by, ports_of}
use Rattle.sl_host.specs.Host.{host_counts}
use Rattle.sl_net.specs.declared.input.Snapshot.{Snapshot}
use Rattle.sl_proto.specs.Built.{counts_at, first_unit}

-- an actor's place is its number
pub place_is : (net : Net) (a : ℕ) (x : ActorId) → net ≡ net_of net.parts → a < length net.actors → actor_of net a ≡ x → place_of x net.actors ≡ a
place_is net a x made = subst (λ n. a < length n.actors → actor_of n a ≡ x → place_of x n.actors ≡ a) (sym made)
    (λ low q. ap (λ y. place_of y (actors_of net.parts)) (sym q) ∙ place-at net.parts a low)

unit_fits : (net : Net) (a : ℕ) (u : UnitId) (ports : List (Option ℕ)) (n : Snapshot) → actor_of net a ≡ OfUnit u → counts_of (wires_of net a ports n) ≡ counts_at net a
unit_fits net a u ports n q =
    let ins : length (map (entrance_by net a) (below (length (links_into net a)))) ≡ length (links_into net a) =
    length-map (below (length (links_into net a))) (entrance_by net a) ∙ length-range_with_len 0 (length (links_into net a)) in
    let outs : length (map (exit_by net) (links_from net a)) ≡ length (links_from net a) = length-map (links_from net a) (exit_by net) in
    let actions : 0 ≡ actions_of (actor_of net a) = sym (ap actions_of q) in
    λ i. record { ins = ins i; outs = outs i; actions = actions i }

pub unit_counts_are : (input : Input) (a : ℕ) (u : UnitId) (side : Side) (s : UnitState) → actor_of input.net a ≡ OfUnit u → s ≡ first_unit input a side → counts_of s.wires ≡ counts_at input.net a
unit_counts_are input a u Ingress s q e =
    ap (λ t. counts_of t.wires) e ∙ unit_fits input.net a u (ports_of input.net (device_of (actor_of input.net a))) input.snapshot q
unit_counts_are input a u Egress s q e =
    ap (λ t. counts_of t.wires) e ∙ unit_fits input.net a u [] input.snapshot q

pub host_fits : (net : Net) (a h : ℕ) → IsWired net → a < length net.actors → actor_of net a ≡ OfHost h → host_counts ≡ counts_at net a
host_fits net a h t low q =
    let links = t.host_links a h (slice_get-get_or net.actors a nobody low ∙ ap Some q) in
    let ins : 1 ≡ length (links_into net a) = sym links.one_in in
    let outs : 1 ≡ length (links_from net a) = sym (ap length links.outs) in
    let actions : 1 ≡ actions_of (actor_of net a) = sym (ap actions_of q) in
    λ i. record { ins = ins i; outs = outs i; actions = actions i }

-- The numbers of all of them.

pub fits_of : {A : Type 0} (counts : A → Counts) (net : Net) (nodes : List A) → map counts nodes ≡ map (counts_at net) (below (length net.actors)) → HasCounts counts (plan_of net) nodes
fits_of counts net nodes h =
    let actors = below (length net.actors) in
    record {
      ins_are = sym (map-map (λ (n : Counts). n.ins) counts nodes) ∙ ap (map (λ (n : Counts). n.ins)) h ∙ map-map (λ (n : Counts). n.ins) (counts_at net) actors;
      outs_are = sym (map-map (λ (n : Counts). n.outs) counts nodes) ∙ ap (map (λ (n : Counts). n.outs)) h ∙ map-map (λ (n : Counts). n.outs) (counts_at net) actors;
      actions_are = sym (map-map (λ (n : Counts). n.actions) counts nodes) ∙ ap (map (λ (n : Counts). n.actions)) h ∙ map-map (λ (n : Counts). n.actions) (counts_at net) actors
          ∙ sym (map-map actions_of (actor_of net) actors) ∙ ap (map actions_of) (all_at net.actors nobody);
    }

pub link_count : (net : Net) → length (wired_links net) ≡ length net.links
link_count net = length-map (link_numbers net) (wired_link net) ∙ length-range_with_len 0 (length net.links)

-- Units by their places.

place_finds : (n x : ℕ) (xs : List ℕ) → Member x xs → (place_in n x xs < n + length xs) × (n ≤ place_in n x xs) × (get_or xs (place_in n x xs - n) 0 ≡ x)
place_finds n x [] m = absurd m
place_finds n x (y ∷ ys) m = by_tells (λ k. place_finds (suc n) x ys k) (eqb_tells y x) m
  where
    by_tells : (Member x ys → (place_in (suc n) x ys < suc n + length ys) × (suc n ≤ place_in (suc n) x ys) × (get_or ys (place_in (suc n) x ys - suc n) 0 ≡ x)) → ((nat_eq y x ≡ true) × (y ≡ x)) ⊎ ((nat_eq y x ≡ false) × (y ≡ x → ⊥)) → (x ≡ y) ⊎ Member x ys
        → (place_in n x (y ∷ ys) < n + length (y ∷ ys)) × (n ≤ place_in n x (y ∷ ys)) × (get_or (y ∷ ys) (place_in n x (y ∷ ys) - n) 0 ≡ x)
    by_tells ih (inl e) k = let p : place_in n x (y ∷ ys) ≡ n = ap (λ b. if b then n else place_in (suc n) x ys) e.0 in
        let z : place_in n x (y ∷ ys) - n ≡ 0 = omega (arith, p) in
        (omega (arith, p), omega (arith, p), ap (λ j. get_or (y ∷ ys) j 0) z ∙ e.1)
    by_tells ih (inr e) (inl k) = absurd (e.1 (sym k))
    by_tells ih (inr e) (inr k) = let r = ih k in let p : place_in n x (y ∷ ys) ≡ place_in (suc n) x ys = ap (λ b. if b then n else place_in (suc n) x ys) e.0 in
        let z : place_in n x (y ∷ ys) - n ≡ suc (place_in (suc n) x ys - suc n) = omega (arith, p, r.0, r.1) in
        (omega (arith, p, r.0), omega (arith, p, r.1), ap (λ j. get_or (y ∷ ys) j 0) z ∙ r.2)

-- an actor that is a unit stands at its place among the units
pub record StandsAt (net : Net) (a place : ℕ) : Type 0 where
  pub within : place < length (units net)
  pub is : slice_index (units net) place ≡ a

unit_stands : (net : Net) (a : ℕ) (u : UnitId) → ((net : Net) → HasWays net) → actor_of net a ≡ OfUnit u → StandsAt net a (unit_place net a)
unit_stands net a u ways q = let r = place_finds 0 a (units net) ((ways net).unit a u q) in
    let z : unit_place net a - 0 ≡ unit_place net a = omega arith in
    record { within = omega (arith, r.0); is = ap (λ j. get_or (units net) j 0) (sym z) ∙ r.2 }

pub unit_found : (net : Net) (a place : ℕ) (u : UnitId) → ((net : Net) → HasWays net) → actor_of net a ≡ OfUnit u → place ≡ unit_place net a → StandsAt net a place
unit_found net a place u ways q p = subst (StandsAt net a) (sym p) (unit_stands net a u ways q)

-- The observer.

pub observer_at : (net : Net) (a : ℕ) → IsWired net → actor_of net a ≡ Observer → a ≡ 0
observer_at net a wired q = wired.one_observer a q

-- One node more.

pub one-more : {A B : Type 0} (f : A → B) (of : ℕ → B) (count : ℕ) (nodes more : List A) (node : A) → more ≡ nodes ++ node ∷ [] → map f nodes ≡ map of (below count) → f node ≡ of count → map f more ≡ map of (below (count + 1))
one-more f of count nodes more node pushed so_far is = ap (map f) pushed ∙ map_push f nodes node ∙ ap (λ xs. xs ++ f node ∷ []) so_far ∙ ap (λ x. map of (below count) ++ x ∷ []) is
    ∙ sym (map-range_with_len_more of 0 count _ (zero-add count))
