-- A source and a sink in memory, as their callers see them.
use Rattle.std.specs.Prelude.{ℕ, List}

-- a source: the bytes left, the numbers of the calls that fail, the calls made so far and how many of them failed
pub record Supply : Type 0 where
  pub left : List ℕ
  pub fail : List ℕ
  pub calls : ℕ
  pub faults : ℕ

-- a sink: the bytes written, how many more fit, the numbers of the calls that fail, the calls made so far and how
-- many of them failed
pub record Store : Type 0 where
  pub written : List ℕ
  pub room : ℕ
  pub fail : List ℕ
  pub calls : ℕ
  pub faults : ℕ
