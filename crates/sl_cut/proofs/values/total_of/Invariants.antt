use Rattle.sl_model.specs.Cut.{data_bytes, data_count}
use Rattle.sl_model.specs.Words.{weigh}
use Rattle.std.proofs.Common.{take, ◌*◌, ◌≡◌, ◌≤◌}
use Rattle.sl_cut.proofs.values.total_of.Given as goal

abbrev pub invariant-loop-message : goal.invariant-loop-message
invariant-loop-message l = record { packets : l.total.packets ≡ weigh data_count (take l.message-index l.messages); few : l.total.packets ≤ l.message-index; bytes : l.total.bytes ≡ weigh data_bytes (take l.message-index l.messages); bound : l.total.bytes ≤ 65535 * l.message-index }
