-- The observer is the first actor of a net.
use Rattle.std.proofs.Common.{◌≡◌, ◌<◌, length, subst, sym, arith}
use Rattle.sl_layout.specs.Net.{Net, net_of}

pub observer_there : (net : Net) → net ≡ net_of net.parts → 0 < length net.actors
observer_there net e = subst (λ (n : Net). 0 < length n.actors) (sym e) (omega arith)
