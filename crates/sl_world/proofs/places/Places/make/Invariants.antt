use Rattle.sl_world.specs.Places.{IsLaidOut, Finds}
use Rattle.sl_world.proofs.places.Places.make.Given as goal

abbrev pub invariant-loop-place : goal.invariant-loop-place
invariant-loop-place l = record { laid_out : IsLaidOut l.table l.counts; finds : Finds l.table l.pairs l.place }
