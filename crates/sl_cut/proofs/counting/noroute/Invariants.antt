use Rattle.sl_layout.specs.Net.{Net}
use Rattle.sl_route.specs.Routes.{IsRoutesOf}
use Rattle.sl_model.specs.Counting.{noroute}
use Rattle.std.proofs.Common.{length, take, ◌<◌, ◌≡◌, ◌≤◌}
use Rattle.std.specs.Prelude.{reverse}
use Rattle.sl_cut.proofs.counting.noroute.Given as goal

abbrev pub invariant-loop-step : goal.invariant-loop-step
invariant-loop-step l = record { value : (net : Net) → IsRoutesOf net l.routes → l.device < length net.parts.devices → l.noroute ≡ noroute net.parts l.device (reverse (take l.step-index l.steps)); bound : l.noroute ≤ l.step-index }
