use Rattle.std.proofs.Common.{◌≡◌, drop}
use Rattle.std.specs.List.{list_any}
use Rattle.sl_balance.specs.Equal.{leads_on}
use Rattle.sl_balance.proofs.equal.begins_by.Given as goal

abbrev pub invariant-loop-cable : goal.invariant-loop-cable
invariant-loop-cable l = list_any (leads_on l.net.parts l.host l.hops (record { device = l.device; port = l.port })) (drop l.cable-index l.cable-items)
    ≡ list_any (leads_on l.net.parts l.host l.hops (record { device = l.device; port = l.port })) l.cable-items
