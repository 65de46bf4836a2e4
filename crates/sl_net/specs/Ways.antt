-- How the links and choices of an actor are told by the ends of links, in any net.
--     IsOut net a s l         the link l comes from the actor a and is of the sort s
--     IsInto net a l          the link l leads to the actor a
--     IsChoice net a s c      the choice c of the actor a takes from a link of the sort s
--     HasWays net             each list of links or choices has those that it is to have; a link is taken by one choice
use Rattle.std.specs.Prelude.{◌≡◌, ℕ, ◌<◌, Bool, true, map, filter, length, Some, slice_get}
use Rattle.sl_layout.specs.declared.actor.UnitId.{UnitId}
use Rattle.sl_layout.specs.declared.actor.ActorId.{ActorId}
use Rattle.sl_layout.specs.declared.actor.ActorId.TheVariants.{Unit as OfUnit}
use Rattle.sl_layout.specs.declared.actor.LinkPart.{LinkPart}
use Rattle.sl_layout.specs.declared.actor.Sort.{Sort}
use Rattle.sl_layout.specs.declared.actor.Sort.TheVariants.{ToHost}
use Rattle.sl_parts.specs.Lists.{Each, Member}
use Rattle.sl_layout.specs.Wires.{out_of}
use Rattle.sl_layout.specs.Net.{Net, actor_of, nobody, link_of, link_at, link_numbers, links_into, links_from, links_out, choices_of, choice_of, same_sort, same_actor, units, unit_place}

pub record IsOut (net : Net) (a : ℕ) (s : Sort) (l : ℕ) : Type 0 where
  pub is_link : l < length net.links
  pub from : (link_of net l).from ≡ a
  pub sort : (link_of net l).sort ≡ s

-- a link that an actor takes from is one that leads to it
pub record IsInto (net : Net) (a : ℕ) (l : ℕ) : Type 0 where
  pub is_link : l < length net.links
  pub to : (link_of net l).to ≡ a

pub record IsChoice (net : Net) (a : ℕ) (s : Sort) (c : ℕ) : Type 0 where
  pub into : slice_get (links_into net a) c ≡ Some (link_at net a c)
  pub sort : (link_of net (link_at net a c)).sort ≡ s

pub record HasWays (net : Net) : Type 0 where
  -- the links of a sort out of an actor are those that come from it, and their places tell them apart
  pub outs : (a : ℕ) (s : Sort) → Each (IsOut net a s) (links_out net a s)
  pub listed : (a : ℕ) (s : Sort) (l : ℕ) → IsOut net a s l → Member l (links_out net a s)
  pub out_low : (a : ℕ) (s : Sort) (l : ℕ) → IsOut net a s l → out_of net l < length (links_from net a)
  pub one_out : (a : ℕ) (s t : Sort) (l k : ℕ) → IsOut net a s l → IsOut net a t k → out_of net l ≡ out_of net k → l ≡ k
  -- a number that is no link's looks up one to a host
  pub is_link : (l : ℕ) → ((link_of net l).sort ≡ ToHost → ⊥) → l < length net.links
  -- each link is taken by the actor that it leads to, by its choice and by no other
  pub into : (a c l : ℕ) → slice_get (links_into net a) c ≡ Some l → IsInto net a l
  pub taken : (l : ℕ) → l < length net.links → slice_get (links_into net (link_of net l).to) (choice_of net l) ≡ Some l
  pub choice : (a c l : ℕ) → slice_get (links_into net a) c ≡ Some l → choice_of net l ≡ c
  -- the choices of a sort are those that take from its links
  pub choices : (a : ℕ) (s : Sort) → Each (IsChoice net a s) (choices_of net a s)
  pub chosen : (a : ℕ) (s : Sort) (c l : ℕ) → slice_get (links_into net a) c ≡ Some l → (link_of net l).sort ≡ s → Member c (choices_of net a s)
  -- the links at the numbers of those that pass are those that pass
  pub numbers : (test : LinkPart → Bool) → map (link_of net) (filter (λ l. test (link_of net l)) (link_numbers net)) ≡ filter test net.links
  -- a number that looks up another actor than the one that no net has is an actor's
  pub within : (a : ℕ) (x : ActorId) → actor_of net a ≡ x → (x ≡ nobody → ⊥) → a < length net.actors
  -- sorts and actors that are told to be one are one
  pub is_sort : (l : ℕ) (s : Sort) → same_sort (link_of net l).sort s ≡ true → (link_of net l).sort ≡ s
  pub is_actor : (a : ℕ) (x : ActorId) → same_actor (actor_of net a) x ≡ true → actor_of net a ≡ x
  -- a unit is one of the units, at a place of its own
  pub unit : (u : ℕ) (i : UnitId) → actor_of net u ≡ OfUnit i → Member u (units net)
  pub one_unit : (u x : ℕ) (i : UnitId) → actor_of net u ≡ OfUnit i → unit_place net x ≡ unit_place net u → x ≡ u
