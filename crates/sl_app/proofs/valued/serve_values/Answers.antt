use Rattle.std.proofs.Common.{◌∙◌}
use Rattle.sl_value.specs.ValuesText.{values_text}
use Rattle.sl_app.proofs.valued.serve_values.Goals as goal

pub returns-clause-values : goal.returns-clause-values
returns-clause-values c =
    let e = c.in_ok-run.ensures in
    let served = c.text_of_run.ensures in
    rw (served.book, served.front, served.nodes, served.text)
    (record { run = e.book; text_is = c.in_ok-text.ensures ∙ (λ j. values_text c.args.input.now.net (e.list j) (e.sent j) (e.delivered j)) })
