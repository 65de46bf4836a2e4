-- Numbers in a tree of minima: the node i has the children 2 i and 2 i + 1, the numbers are the last nodes, and each node before them is the
-- lesser of its children. The node 1 is the least of all, and the node 0 isn't used.
use Rattle.std.specs.Prelude.{◌≡◌, ℕ, ◌+◌, ◌*◌, ◌<◌, ◌≤◌, min, List, length, slice_index}

abbrev pub IsLesserOfChildren : List ℕ → ℕ → Type 0
IsLesserOfChildren tree i = slice_index tree i ≡ min (slice_index tree (2 * i)) (slice_index tree (2 * i + 1))

-- a tree of so many numbers
pub record IsTree (count : ℕ) (tree : List ℕ) : Type 0 where
  pub size : length tree ≡ count + count
  pub nodes : (i : ℕ) → 1 ≤ i → i < count → IsLesserOfChildren tree i
