use Rattle.sl_model.specs.Cut.{before}
use Rattle.sl_model.specs.History.{id}
use Rattle.std.proofs.Common.{take, ◌≡◌, ◌≤◌}
use Rattle.std.specs.Prelude.{reverse}
use Rattle.sl_cut.proofs.values.before.Given as goal

abbrev pub invariant-loop-place : goal.invariant-loop-place
invariant-loop-place l = record { id : l.id ≡ id (reverse (take l.place l.steps)); count : l.count ≤ l.place; within : reverse (take l.count l.steps) ≡ before l.snapshot (reverse (take l.place l.steps)) }
