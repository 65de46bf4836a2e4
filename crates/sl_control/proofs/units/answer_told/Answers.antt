use Rattle.std.proofs.Common.{◌++◌, [], ap, ◌∙◌}
use Rattle.std.specs.Prelude.{cond}
use Rattle.sl_control.specs.Told.{puts_by}
use Rattle.sl_control.proofs.units.answer_told.Goals as goal

pub returns-in-Some-clause-puts : goal.returns-in-Some-clause-puts
returns-in-Some-clause-puts c = c.answer.ensures.puts
    ∙ ap (λ b. c.args.out.now.items ++ cond b (puts_by c.args.done c.args.told.now c.args.view.now c.args.known.now) []) c.if-read.ensures.read
