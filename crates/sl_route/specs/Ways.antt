-- The ways to one host: from each device the next port, and the number of cables.
use Rattle.std.specs.Prelude.{ℕ, List, Option}

pub record Ways : Type 0 where
  pub ports : List (Option ℕ)
  pub hops : List (Option ℕ)
