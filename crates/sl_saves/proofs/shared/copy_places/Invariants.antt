use Rattle.std.proofs.Common.{◌≡◌, length, drop}
use Rattle.sl_saves.specs.Shares.{AgreesBut}
use Rattle.sl_saves.proofs.shared.copy_places.Given as goal

abbrev pub invariant-loop-place : goal.invariant-loop-place
invariant-loop-place l = record { long : length l.shown ≡ length l.slots; agree : AgreesBut (drop l.place-index l.places) l.shown l.slots }
