use Rattle.sl_words.specs.declared.command.Command.TheVariants.{Routes}
use Rattle.sl_app.proofs.EndLemmas.{memory_told}
use Rattle.sl_app.proofs.top.routes.Goals as goal

pub returns-in_err-served : goal.returns-in_err-served
returns-in_err-served g c = memory_told _ Routes c.from_residual-in_err-served.result c.requires tt c.from_residual-in_err-served.ensures
