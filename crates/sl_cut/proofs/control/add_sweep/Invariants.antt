use Rattle.sl_model.specs.Puts.{poll_puts}
use Rattle.std.proofs.Common.{take, ◌++◌, ◌≡◌}
use Rattle.std.specs.Prelude.{flat_map, reverse}
use Rattle.sl_cut.proofs.control.add_sweep.Given as goal

abbrev pub invariant-loop-one : goal.invariant-loop-one
invariant-loop-one l = l.puts.items ≡ l.initial.puts.items ++ flat_map (λ v. poll_puts v (reverse l.steps)) (take l.one-index l.one-items)
