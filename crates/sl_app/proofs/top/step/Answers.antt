use Rattle.sl_words.specs.declared.command.Command.TheVariants.{Step}
use Rattle.sl_app.proofs.EndLemmas.{memory_told}
use Rattle.sl_app.proofs.RunLemmas.{stepped}
use Rattle.sl_app.proofs.top.step.Goals as goal

pub returns : goal.returns
returns g c = let e = c.in_ok-accepted.ensures in
    stepped _ c.in_ok-accepted.accepted c.args.trace c.requires e.accepts.0 e.small _ _ _ _ _ c.in_ok-served.ensures.report c.in_ok-served.ensures.status

pub returns-in_err-served : goal.returns-in_err-served
returns-in_err-served g c = memory_told _ (Step c.args.trace) c.from_residual-in_err-served.result c.requires tt c.from_residual-in_err-served.ensures
