use Rattle.std.proofs.Common.{ap, sym, ◌∙◌}
use Rattle.sl_route.specs.Route.{next_port}
use Rattle.sl_route.specs.Ways.{Ways}
use Rattle.sl_route.proofs.KeptWays.{past-hosts, kept-at, no-port, ports-kept}
use Rattle.sl_route.proofs.routes.Routes.next_port.Goals as goal

pub returns-in_err-ways : goal.returns-in_err-ways
returns-in_err-ways c = λ net r l. c.from_residual.ensures ∙ sym (no-port net.parts c.args.device c.args.host (past-hosts net c.args.host _ (c.deref.ensures.value ∙ c.self.view_is ∙ r) c.in_err-ways.ensures.lookup.3))

pub returns : goal.returns
returns c = λ net r l. c.kept.ensures ∙ kept-at net c.args.host _ (c.deref.ensures.value ∙ c.self.view_is ∙ r) (λ w. w.ports) (λ d. next_port net.parts d c.args.host) (ports-kept net.parts c.args.host)
    c.in_ok-ways.ways.now c.deref-2.result.now c.args.device c.in_ok-ways.ensures.lookup.3.0 c.in_ok-ways.ensures.lookup.3.1 (c.deref-2.ensures.value ∙ ap (λ (w : Ways). w.ports) c.ways.view_is) l
