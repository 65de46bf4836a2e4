-- What comes by the choices of a unit.
use Rattle.std.proofs.Common.{◌≡◌, ℕ, ◌<◌, ◌≤◌, List, length, subst, sym, get_or, inl, inr}
use Rattle.std.specs.Prelude.{true, false, ◌⊎◌, nat_le}
use Rattle.std.specs.List.{All}
use Rattle.std.proofs.lemmas.Bool.Decides.{leb_tells}
use Rattle.std.proofs.lemmas.List.Elements.{All-get_or}
use Rattle.std.proofs.Math.ListN.{get_or-eq_default}
use Rattle.sl_unit.specs.declared.wires.Entrance.{Entrance}
use Rattle.sl_unit.specs.declared.wires.Entrance.TheVariants.{Other}
use Rattle.sl_unit.specs.Wires.{IsSmall}

-- each channel has a register, and past the last choice there is none
pub small_at : (entrances : List Entrance) (choice : ℕ) → All IsSmall entrances → IsSmall (get_or entrances choice Other)
small_at entrances choice all = by_tells (leb_tells (length entrances) choice)
  where
    by_tells : ((nat_le (length entrances) choice ≡ true) × (length entrances ≤ choice)) ⊎ ((nat_le (length entrances) choice ≡ false) × (choice < length entrances)) → IsSmall (get_or entrances choice Other)
    by_tells (inl h) = subst IsSmall (sym (get_or-eq_default entrances Other h.1)) tt
    by_tells (inr h) = All-get_or IsSmall entrances choice Other h.1 all
