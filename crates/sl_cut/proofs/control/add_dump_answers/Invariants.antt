use Rattle.sl_model.specs.Puts.{dump_answer}
use Rattle.std.proofs.Common.{[], take, ◌++◌, ◌≡◌}
use Rattle.std.specs.Prelude.{flat_map, if◌then◌else◌, reverse, ◌==◌}
use Rattle.sl_cut.proofs.control.add_dump_answers.Given as goal

abbrev pub invariant-loop-one : goal.invariant-loop-one
invariant-loop-one l = l.puts.items ≡ l.initial.puts.items ++ flat_map (λ v. if l.choice == v.dump then dump_answer l.by.net.now l.by.actor (reverse l.steps) l.count v else []) (take l.one-index l.list)
