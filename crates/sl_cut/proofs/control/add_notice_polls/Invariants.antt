use Rattle.sl_model.specs.Puts.{poll_puts}
use Rattle.std.proofs.Common.{[], take, ◌++◌, ◌≡◌}
use Rattle.std.specs.Prelude.{flat_map, if◌then◌else◌, reverse, ◌==◌}
use Rattle.sl_cut.proofs.control.add_notice_polls.Given as goal

abbrev pub invariant-loop-one : goal.invariant-loop-one
invariant-loop-one l = l.puts.items ≡ l.initial.puts.items ++ flat_map (λ v. if l.choice == v.notice then poll_puts v (reverse l.steps) else []) (take l.one-index l.list)
