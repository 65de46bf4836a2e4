use Rattle.std.proofs.Common.{◌≡◌, drop}
use Rattle.sl_value.specs.Valued.{first_done}
use Rattle.sl_value.proofs.kept.first_done.Given as goal

abbrev pub invariant-loop-put : goal.invariant-loop-put
invariant-loop-put l = first_done (drop l.put-index l.puts) ≡ first_done l.puts
