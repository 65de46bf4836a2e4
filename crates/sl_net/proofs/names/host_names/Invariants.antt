use Rattle.std.proofs.Common.{ℕ, ◌<◌, get_or}
use Rattle.sl_parts.specs.declared.parts.HostPart.{HostPart}
use Rattle.sl_parts.specs.Text.{IsName}
use Rattle.sl_net.proofs.names.host_names.Given as goal

abbrev pub invariant-loop-host : goal.invariant-loop-host
invariant-loop-host l = (k : ℕ) → k < l.host-index → (d : HostPart) → IsName (get_or l.hosts k d).name
