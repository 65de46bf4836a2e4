use Rattle.std.proofs.Common.{◌≡◌, ℕ, ◌<◌, ◌≤◌, length}
use Rattle.sl_observe.specs.Kept.{states, collected_at}
use Rattle.sl_observe.proofs.units.make_rooms.Given as goal

abbrev pub invariant-loop-place : goal.invariant-loop-place
invariant-loop-place l = record {
  states : states l.units.items ≡ states l.fn.units.items;
  size : length l.units.items ≡ length l.fn.units.items;
  more : (k : ℕ) → (collected_at l.fn.units.items k).room ≤ (collected_at l.units.items k).room;
  room : (k : ℕ) → l.first ≤ k → k < l.place → l.ring ≤ (collected_at l.units.items k).room;
}
