-- The data channels of a unit: at most eight, each with its place among them.
use Rattle.std.proofs.Common.{◌≡◌, ℕ, suc, ◌+◌, ◌<◌, ◌≤◌, List, [], ◌∷◌, length, refl, sym, None, arith, inl, inr}
use Rattle.std.specs.Prelude.{Bool, cond, true, false, ◌⊎◌, ◌==◌, IsSome}
use Rattle.std.specs.List.{All}
use Rattle.std.proofs.lemmas.Bool.Decides.{eqb_tells}
use Rattle.sl_layout.specs.declared.actor.ActorId.{ActorId}
use Rattle.sl_layout.specs.declared.actor.ActorId.TheVariants.{Observer, Control, Unit as OfUnit, Host as OfHost}
use Rattle.sl_layout.specs.declared.actor.Sort.{Sort}
use Rattle.sl_layout.specs.declared.actor.Sort.TheVariants.{FromHost, ToHost, Cable, Crossbar, Init, Poll, Notice, Dump, Begin, Done}
use Rattle.sl_parts.specs.Fault.{fault_of}
use Rattle.sl_parts.specs.Parts.{below}
use Rattle.sl_layout.specs.Net.{Net, net_of, links_into, link_of, link_at, place_in, actor_of, same_sort, choices_of, data_channels}
use Rattle.sl_net.specs.Wired.{IsNet, IsWired}
use Rattle.sl_parts.specs.Lists.{Member}
use Rattle.sl_parts.proofs.Lists.{member-filter, member-from, member-left, member-right, all-from_each, each-map, each-below}
use Rattle.sl_unit.specs.Wires.{IsSmall}
use Rattle.sl_unit.specs.Made.{side_of, entrance, entrance_by, entrances_of, is_own}

-- How many there are.

-- a unit has at most eight data channels
pub channels_few : (net : Net) (a : ℕ) → ((net : Net) → IsNet net → IsWired net) → net ≡ net_of net.parts → fault_of net.parts ≡ None → IsSome (side_of (actor_of net a)) → length (data_channels net a) ≤ 8
channels_few net a wired made right s = of_actor (actor_of net a) refl s
  where
    of_actor : (x : ActorId) → actor_of net a ≡ x → IsSome (side_of x) → length (data_channels net a) ≤ 8
    of_actor (OfUnit u) q h = (wired net (record { made = made; right = right })).few_channels a u q
    of_actor Observer q h = absurd (let z = h in cc)
    of_actor (Control d) q h = absurd (let z = h in cc)
    of_actor (OfHost n) q h = absurd (let z = h in cc)

-- Their places.

place_low : (n x : ℕ) (ys : List ℕ) → Member x ys → place_in n x ys < n + length ys
place_low n x [] m = absurd m
place_low n x (y ∷ ys) m = by_tells m (eqb_tells y x) (λ m. place_low (suc n) x ys m)
  where
    by_tells : (x ≡ y) ⊎ Member x ys → (((y == x) ≡ true) × (y ≡ x)) ⊎ (((y == x) ≡ false) × (y ≡ x → ⊥)) → (Member x ys → place_in (suc n) x ys < suc n + length ys)
        → cond (y == x) n (place_in (suc n) x ys) < n + suc (length ys)
    by_tells m (inl e) f = rw e.0 (omega arith)
    by_tells (inl q) (inr e) f = absurd (e.1 (sym q))
    by_tells (inr m) (inr e) f = rw e.0 (omega (arith, f m))

entrance_small : (s : Sort) (i : ℕ) (own : Bool) → (same_sort s Cable ≡ true → i < 8) → (same_sort s Crossbar ≡ true → i < 8) → IsSmall (entrance s i own)
entrance_small FromHost i own h k = tt
entrance_small ToHost i own h k = tt
entrance_small Cable i own h k = h refl
entrance_small Crossbar i own h k = k refl
entrance_small Init i own h k = tt
entrance_small Poll i own h k = tt
entrance_small Notice i own h k = tt
entrance_small Dump i own h k = tt
entrance_small Begin i own h k = tt
entrance_small Done i own h k = tt

-- each channel has a register
pub entrances_small : (net : Net) (a : ℕ) → length (data_channels net a) ≤ 8 → All IsSmall (entrances_of net a)
entrances_small net a few = all-from_each IsSmall (entrances_of net a) (each-map IsSmall (entrance_by net a) (below n) (each-below (λ c. IsSmall (entrance_by net a c)) n small))
  where
    n : ℕ
    n = length (links_into net a)

    low : (c : ℕ) → Member c (data_channels net a) → place_in 0 c (data_channels net a) < 8
    low c m = omega (arith, place_low 0 c (data_channels net a) m, few)

    choice : (c : ℕ) (s : Sort) → c < length (links_into net a) → same_sort (link_of net (link_at net a c)).sort s ≡ true → Member c (choices_of net a s)
    choice c s h t = member-filter (λ c. same_sort (link_of net (link_at net a c)).sort s) c (below (length (links_into net a))) (member-from c 0 (length (links_into net a)) (omega arith) (omega arith)) t

    small : (c : ℕ) → c < length (links_into net a) → IsSmall (entrance_by net a c)
    small c h = let link = link_of net (link_at net a c) in
        entrance_small link.sort (place_in 0 c (data_channels net a)) (is_own (actor_of net a) (actor_of net link.from))
        (λ t. low c (member-left c (choices_of net a Cable) (choices_of net a Crossbar) (choice c Cable h t)))
        (λ t. low c (member-right c (choices_of net a Cable) (choices_of net a Crossbar) (choice c Crossbar h t)))
