-- How the machines of the tests are joined.
use Rattle.std.specs.Prelude.{◌∷◌, []}
use Rattle.sl_machine.specs.Plan.{Plan}

-- each of two actors sends to the other
abbrev pub ring : Plan
ring =
    record {
      links = record { from = 1; out = 0; to = 0; choice = 0 } ∷ record { from = 0; out = 0; to = 1; choice = 0 } ∷ [];
      ins = 1 ∷ 1 ∷ [];
      outs = 1 ∷ 1 ∷ [];
      actions = 1 ∷ 1 ∷ [];
    }
