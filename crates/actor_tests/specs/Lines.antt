-- Machines that stand in a line.
use Rattle.std.specs.Prelude.{◌∷◌, [], ℕ, List}
use Rattle.sl_machine.specs.Plan.{Plan}
use Rattle.sl_actor.specs.Follows.{ActorView}
use Rattle.sl_actor.specs.Made.{EachFollows}
use Rattle.sl_merge.specs.Merged.{AreWired}
use Rattle.world_tests.specs.Relays.{RelayState, relay_rules}

-- a host that sends, two relays and a host that takes
abbrev pub in_line : Plan
in_line =
    record {
      links = record { from = 0; out = 0; to = 1; choice = 0 } ∷ record { from = 1; out = 0; to = 2; choice = 0 } ∷ record { from = 2; out = 0; to = 3; choice = 0 } ∷ [];
      ins = 0 ∷ 1 ∷ 1 ∷ 1 ∷ [];
      outs = 1 ∷ 1 ∷ 1 ∷ 0 ∷ [];
      actions = 1 ∷ 0 ∷ 0 ∷ 0 ∷ [];
    }

-- the machines of the line before their first turns
abbrev pub states_in_line : List RelayState
states_in_line = (1, 3, 0, 0) ∷ (1, 0, 0, 0) ∷ (1, 0, 0, 0) ∷ (0, 0, 0, 0) ∷ []

-- actors of the line after any turns
pub record AreUnderWay (actors : List (ActorView RelayState ℕ)) : Type 0 where
  pub wired : AreWired in_line actors
  pub follow : EachFollows relay_rules states_in_line actors
