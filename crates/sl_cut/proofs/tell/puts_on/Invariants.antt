use Rattle.sl_model.specs.Knowledge.{puts_on}
use Rattle.std.proofs.Common.{take, ◌≡◌}
use Rattle.sl_cut.proofs.tell.puts_on.Given as goal

abbrev pub invariant-loop-put : goal.invariant-loop-put
invariant-loop-put l = l.found ≡ puts_on l.link (take l.put-index l.puts)
