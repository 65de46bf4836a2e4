-- Which links have a message.
use Rattle.std.specs.Prelude.{◌≡◌, ◌*◌, ◌/◌, ◌%◌, ◌<◌, ◌↔◌, ℕ, List, [], length, slice_index_or}
use Rattle.std.specs.Int.{bit_at}
use Rattle.sl_world.specs.Scene.{line_at}
use Rattle.sl_world.specs.LineView.{LineView}
use Rattle.sl_world.specs.Mesh.{lines_of}

-- 1 where a number is marked, else 0
abbrev pub mark_at : List ℕ → ℕ → ℕ
mark_at words k = bit_at (slice_index_or words (k / 64) 0) (k % 64)

-- the links with a message are marked, and so is the place past the end, which stands for all actions
pub record IsMarked {M : Type 0} (views : List (LineView M)) (words : List ℕ) : Type 0 where
  pub room : length views < 64 * length words
  pub is : (k : ℕ) → k < length views → (mark_at words k ≡ 0) ↔ ((line_at (lines_of views) k).queue ≡ [])
  pub end : mark_at words (length views) ≡ 1
