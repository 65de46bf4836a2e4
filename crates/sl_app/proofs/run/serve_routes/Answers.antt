use Rattle.std.proofs.Common.{ap, ◌∙◌}
use Rattle.sl_net.specs.Input.{Input}
use Rattle.sl_report.specs.RoutesText.{routes_text}
use Rattle.sl_app.proofs.run.serve_routes.Goals as goal

pub returns-clause-text : goal.returns-clause-text
returns-clause-text c = c.only_text.ensures.text ∙ c.in_ok-text.ensures ∙ ap (λ (i : Input). routes_text i.net) c.input.view_is
