use Rattle.sl_model.specs.Findings.{sent_by, delivered_to}
use Rattle.std.proofs.Common.{take, ◌≡◌}
use Rattle.std.specs.Prelude.{map}
use Rattle.sl_cut.proofs.gather.host_counts.Given as goal

abbrev pub invariant-loop-host : goal.invariant-loop-host
invariant-loop-host l = record { sent : l.sent.items ≡ map (sent_by l.net l.world) (take l.host-index l.hosts); delivered : l.delivered.items ≡ map (delivered_to l.world) (take l.host-index l.hosts) }
