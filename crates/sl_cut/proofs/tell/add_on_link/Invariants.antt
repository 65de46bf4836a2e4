use Rattle.sl_model.specs.History.{on_link}
use Rattle.std.proofs.Common.{take, ◌++◌, ◌≡◌}
use Rattle.sl_cut.proofs.tell.add_on_link.Given as goal

abbrev pub invariant-loop-put : goal.invariant-loop-put
invariant-loop-put l = l.messages.items ≡ l.initial.messages.items ++ on_link l.link (take l.put-index l.puts)
