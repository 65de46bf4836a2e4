use Rattle.std.proofs.Common.{◌≡◌, map, take}
use Rattle.sl_model.specs.Findings.{channel_links}
use Rattle.sl_report.proofs.channels.list_channels.Given as goal

abbrev pub invariant-loop-unit : goal.invariant-loop-unit
invariant-loop-unit l = l.lists.items ≡ map (channel_links l.net) (take l.unit-index l.unit-items)
