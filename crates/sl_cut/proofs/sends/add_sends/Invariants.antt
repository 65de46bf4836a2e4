use Rattle.sl_model.specs.Puts.{send_all}
use Rattle.std.proofs.Common.{take, ◌++◌, ◌≡◌}
use Rattle.sl_cut.proofs.sends.add_sends.Given as goal

abbrev pub invariant-loop-link : goal.invariant-loop-link
invariant-loop-link l = l.puts.items ≡ l.initial.puts.items ++ send_all l.message (take l.link-index l.links)
