-- Trusted text, in part.
-- How far devices are from one of them, by the neighbours of each.
--     leads g x d        one cable leads from x to d
--     reaches g e n d    n cables lead from d to e
--     within g e n d     the least number of cables from d to e, where it is at most n
use Rattle.std.specs.Prelude.{◌≡◌, ℕ, zero, suc, ◌<◌, ◌≤◌, Bool, false, ◌&&◌, ◌||◌, ◌==◌, List, [], map, filter, length, Option, Some, None, is_none, slice_index_or, if◌then◌else◌}
use Rattle.std.specs.List.{All, list_any}
use Rattle.sl_parts.specs.declared.parts.CablePart.{CablePart}
use Rattle.sl_parts.specs.Parts.{Parts}
use Rattle.sl_route.specs.declared.neighbours.Neighbour.{Neighbour}
use Rattle.sl_route.specs.Least.{least}
use Rattle.sl_route.specs.Route.{cables_from}

-- the neighbours of each device
abbrev pub Graph : Type 0
Graph = List (List Neighbour)

-- where a cable leads
abbrev pub neighbour_by : CablePart → Neighbour
neighbour_by c = record { port = c.a.port; device = c.b.device }

abbrev pub neighbours_of : Parts → ℕ → List Neighbour
neighbours_of parts d = map neighbour_by (cables_from parts d)

abbrev pub neighbours_at : Graph → ℕ → List Neighbour
neighbours_at g d = slice_index_or g d []

abbrev pub leads : Graph → ℕ → ℕ → Bool
leads g x d = list_any (λ k. k.device == d) (neighbours_at g x)

abbrev pub reaches : Graph → ℕ → ℕ → ℕ → Bool
reaches g e zero d = d == e
reaches g e (suc n) d = list_any (λ k. reaches g e n k.device) (neighbours_at g d)

-- the least number that passes, where it is at most n
abbrev pub first_to_pass : (ℕ → Bool) → ℕ → Option ℕ
first_to_pass test zero = if test 0 then Some 0 else None
first_to_pass test (suc n) = if is_none (first_to_pass test n) && test (suc n) then Some (suc n) else first_to_pass test n

unfoldable pub within : Graph → ℕ → ℕ → ℕ → Option ℕ
within g e n d = first_to_pass (λ m. reaches g e m d) n

-- the neighbours are devices of the graph, and each is a neighbour of its neighbours
pub record IsGraph (g : Graph) : Type 0 where
  pub few : length g ≤ 64
  pub near : (d : ℕ) → All (λ k. k.device < length g) (neighbours_at g d)
  pub both_ways : (x d : ℕ) → leads g x d ≡ leads g d x

abbrev pub is_at : ℕ → Option ℕ → Bool
is_at n None = false
is_at n (Some m) = m == n

abbrev pub lists : List ℕ → ℕ → Bool
lists ds d = list_any (λ x. x == d) ds

-- devices that were not reached and are found now are so many cables away, and are listed
pub record Finds (hops : ℕ) (found : ℕ → Bool) (old new : List (Option ℕ)) (before after : List ℕ) : Type 0 where
  pub size : length new ≡ length old
  pub each : (d : ℕ) → d < length old → slice_index_or new d None ≡ (if is_none (slice_index_or old d None) && found d then Some hops else slice_index_or old d None)
  pub listed : (d : ℕ) → d < length old → lists after d ≡ (lists before d || (is_none (slice_index_or old d None) && found d))
  pub near : All (λ x. x < length old) before → All (λ x. x < length old) after

-- how far each device is from e
pub record IsFar (g : Graph) (e : ℕ) (far : List (Option ℕ)) : Type 0 where
  pub size : length far ≡ length g
  pub each : (d : ℕ) → d < length g → (n : ℕ) → length g ≡ suc n → slice_index_or far d None ≡ within g e n d

-- the ports that lead to devices so many cables away
abbrev pub ports_to : List Neighbour → List (Option ℕ) → ℕ → List ℕ
ports_to ks far n = map (λ k. k.port) (filter (λ k. is_at n (slice_index_or far k.device None)) ks)

-- the port of a device with these neighbours, so far away, by which to go on
abbrev pub port_toward : ℕ → List (Option ℕ) → List Neighbour → Option ℕ → Option ℕ
port_toward own far ks None = None
port_toward own far ks (Some zero) = Some own
port_toward own far ks (Some (suc n)) = least (ports_to ks far n)
