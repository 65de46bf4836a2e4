-- The units of a net, with tables to look them up.
use Rattle.std.specs.Prelude.{◌≡◌, ◌<◌, ℕ, List, length, map, slice_index}
use Rattle.sl_layout.specs.declared.actor.UnitId.{UnitId}
use Rattle.sl_layout.specs.declared.actor.ActorId.TheVariants.{Unit as OfUnit}
use Rattle.sl_layout.specs.Net.{Net, actor_of, units, place_in}

-- these are the units of those actors
abbrev pub AreUnits : Net → List ℕ → List UnitId → Type 0
AreUnits net actors ids = map OfUnit ids ≡ map (actor_of net) actors

-- each actor's place among these numbers, counted from n
pub record HasPlaces (n count : ℕ) (numbers places : List ℕ) : Type 0 where
  pub size : length places ≡ count
  pub each : (a : ℕ) → a < count → slice_index places a ≡ place_in n a numbers

-- the units in order: what they are, their actors' numbers, and each actor's place among them
pub record AreListed (net : Net) (ids : List UnitId) (actors places : List ℕ) : Type 0 where
  pub actors_are : actors ≡ units net
  pub ids_are : AreUnits net (units net) ids
  pub places_are : HasPlaces 0 (length net.actors) (units net) places
