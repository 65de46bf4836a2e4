use Rattle.sl_layout.specs.Net.{actor_of}
use Rattle.sl_model.specs.Counting.{bad, expired, noroute}
use Rattle.sl_model.specs.Findings.{is_ingress}
use Rattle.sl_layout.specs.Devices.{device_of}
use Rattle.sl_model.specs.History.{history}
use Rattle.sl_model.specs.Words.{weigh}
use Rattle.std.proofs.Common.{length, take, ℕ, ◌≡◌, ◌≤◌}
use Rattle.std.specs.Prelude.{cond}
use Rattle.sl_cut.proofs.gather.drops_of.Given as goal

abbrev pub invariant-loop-unit : goal.invariant-loop-unit
invariant-loop-unit l =
    let seen = take l.unit-index l.unit-items in
    let steps = weigh (λ (u : ℕ). cond (is_ingress (actor_of l.net u)) (length (history l.world u)) 0) seen in
    record {
      bad : l.drops.bad ≡ weigh (λ u. cond (is_ingress (actor_of l.net u)) (bad (history l.world u)) 0) seen;
      expired : l.drops.expired ≡ weigh (λ u. cond (is_ingress (actor_of l.net u)) (expired (history l.world u)) 0) seen;
      noroute : l.drops.noroute ≡ weigh (λ u. cond (is_ingress (actor_of l.net u)) (noroute l.net.parts (device_of (actor_of l.net u)) (history l.world u)) 0) seen;
      few_bad : l.drops.bad ≤ steps;
      few_expired : l.drops.expired ≤ steps;
      few_noroute : l.drops.noroute ≤ steps;
    }
