use Rattle.std.proofs.Common.{◌≡◌, ◌<◌, ℕ, length}
use Rattle.std.specs.Prelude.{slice_index}
use Rattle.sl_world.specs.Places.{start_of}
use Rattle.sl_world.proofs.places.Places.blank.Given as goal

abbrev pub invariant-loop-count : goal.invariant-loop-count
invariant-loop-count l =
    record {
      long : length l.starts.items ≡ l.count-index;
      end : l.end ≡ start_of l.counts l.count-index;
      starts : (a : ℕ) → a < l.count-index → slice_index l.starts.items a ≡ start_of l.counts a;
    }
