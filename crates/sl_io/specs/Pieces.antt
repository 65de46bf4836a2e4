-- Trusted text, but for TakesUpTo.
-- What calls take from a source and append to a sink: `old` and `new` are the bytes left of a source, or the
-- bytes written of a sink, before and after, where the object tells them.
use Rattle.std.specs.Prelude.{◌≡◌, ℕ, ◌<◌, ◌≤◌, List, length, take, Option, is_some}
use Rattle.std.specs.Io.KnownBytes.{Appends, Consumes, IsAtEnd}

-- the object tells its bytes exactly where it told them before
abbrev pub TellsAsBefore : Option (List ℕ) → Option (List ℕ) → Type 0
TellsAsBefore old new = is_some new ≡ is_some old

-- `bytes` were next and were taken: all that there were, or as many as the limit
pub record IsReadUpTo (limit : ℕ) (old new : Option (List ℕ)) (bytes : List ℕ) : Type 0 where
  pub taken : Consumes old new bytes
  pub bound : length bytes ≤ limit
  pub whole : length bytes < limit → IsAtEnd new

-- at most `limit` bytes were next and were taken
abbrev pub TakesUpTo : ℕ → Option (List ℕ) → Option (List ℕ) → Type 0
TakesUpTo limit old new = (taken : List ℕ) × Consumes old new taken × (length taken ≤ limit)

-- the first bytes of a piece were appended, but not the whole piece
abbrev pub AppendsPart : Option (List ℕ) → Option (List ℕ) → List ℕ → Type 0
AppendsPart old new piece = (n : ℕ) × (n < length piece) × Appends old new (take n piece)
