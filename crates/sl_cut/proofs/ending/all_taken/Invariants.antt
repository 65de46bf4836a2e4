use Rattle.std.proofs.Common.{◌≡◌, ℕ, ◌<◌, length}
use Rattle.sl_model.specs.Losses.{losses}
use Rattle.sl_model.specs.World.{receiver, carried, taken_by}
use Rattle.sl_cut.proofs.ending.all_taken.Given as goal

abbrev pub invariant-loop-link : goal.invariant-loop-link
invariant-loop-link l = (k : ℕ) → k < l.link → taken_by l.input.net k (receiver l.input.net l.world k) ≡ length (carried l.input.net (losses l.input) l.world k)
