use Rattle.std.proofs.Common.{◌≡◌, take}
use Rattle.std.specs.Prelude.{vec_capacity}
use Rattle.sl_saves.proofs.slots.settle.Given as goal

abbrev pub invariant-loop-slot : goal.invariant-loop-slot
invariant-loop-slot l = record { same : l.items.items ≡ take l.slot-index l.slot-items; room : vec_capacity l.items ≡ vec_capacity l.fn.items }
