-- That the places among a control plane's outgoing links are apart, and so are the choices by which it takes notices, and those by which it takes dumps.
use Rattle.std.specs.Prelude.{◌≡◌, ℕ, ◌<◌, ◌≤◌, List, [], ◌∷◌, map, length, slice_get, Option, Some, IsSome}
use Rattle.std.specs.List.{AllByRecursion}
use Rattle.sl_saves.specs.declared.entry.Saved.{Saved}
use Rattle.sl_wire.specs.declared.message.Done.{Done}
use Rattle.sl_control.specs.declared.known.Known.{Known}
use Rattle.sl_control.specs.declared.units.Sent.{Sent}
use Rattle.sl_control.specs.declared.units.Sent.TheVariants.{Notice, Dump}

-- no number stands twice
abbrev pub AreApart : List ℕ → Type 0
AreApart [] = Unit {0}
AreApart (x ∷ xs) = AllByRecursion (λ y. y ≡ x → ⊥) xs × AreApart xs

abbrev pub polls_of : List Known → List ℕ
polls_of rs = map (λ r. r.wires.poll) rs

-- the choice by which a unit's notices, or its dumps, are taken
abbrev pub choice_of : Sent → Known → ℕ
choice_of Notice r = r.wires.notice
choice_of Dump r = r.wires.dump

abbrev pub choices_of : Sent → List Known → List ℕ
choices_of s rs = map (choice_of s) rs

-- the unit at a place is one whose notices, or dumps, are taken by this choice
pub record HasChoice (s : Sent) (choice i : ℕ) (units : List Known) : Type 0 where
  pub known : Known
  pub at : slice_get units i ≡ Some known
  pub is : choice_of s known ≡ choice

-- numbers below a bound, of which none stands twice
pub record AreOuts (bound : ℕ) (xs : List ℕ) : Type 0 where
  pub below : AllByRecursion (λ x. x < bound) xs
  pub apart : AreApart xs
  pub few : length xs ≤ bound

-- the puts of one turn go to places below the number of outgoing links, and no two to one
pub record IsJoined (outs : ℕ) (inits : List ℕ) (done : ℕ) (units : List Known) : Type 0 where
  pub inits_apart : AreOuts outs inits
  pub polls_apart : AreOuts outs (polls_of units)
  pub dones_apart : AllByRecursion (λ r. AreOuts outs (done ∷ r.wires.poll ∷ [])) units
  pub notices_apart : AreApart (choices_of Notice units)
  pub dumps_apart : AreApart (choices_of Dump units)

-- there is no row yet, and room for those of a dump and a Done to be filled in, where a turn was prepared
pub record HasRoom (ring : ℕ) (prepared : Option ℕ) (rows : List (ℕ × Saved)) (capacity : ℕ) (done : Option Done) : Type 0 where
  pub empty : rows ≡ []
  pub room : IsSome prepared → ring ≤ capacity
  pub report : IsSome prepared → IsSome done
