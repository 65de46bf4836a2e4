use Rattle.std.proofs.Common.{◌≡◌, ◌++◌, subst, List, ℕ, OnOk, string_bytes}
use Rattle.sl_report.proofs.TextLemmas.{sizes_are}
use Rattle.sl_report.proofs.lines.push_network.Goals as goal

pub returns : goal.returns
returns c = subst (λ (t : List ℕ). OnOk c.write.result (string_bytes c.write.new.self ≡ string_bytes c.args.out.now ++ t))
    (sizes_are c.args.net.now c.device_count-devices.result c.args.count c.host_count-hosts.result
    c.device_count-devices.ensures c.requires c.host_count-hosts.ensures)
    c.write.ensures.bytes
