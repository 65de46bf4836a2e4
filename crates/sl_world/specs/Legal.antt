-- Trusted text.
-- The entries that a legal schedule adds to a book.
use Rattle.std.specs.Prelude.{◌+◌, ℕ, List, [], ◌∷◌}
use Rattle.sl_machine.specs.declared.wiring.Entry.{Entry}

-- the entries of a book in which these turns follow the number n
abbrev pub numbered_from : ℕ → List (ℕ × ℕ) → List Entry
numbered_from n [] = []
numbered_from n (e ∷ es) = record { number = n + 1; actor = e.0; choice = e.1 } ∷ numbered_from (n + 1) es
