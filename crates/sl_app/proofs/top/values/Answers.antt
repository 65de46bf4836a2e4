use Rattle.sl_words.specs.declared.command.Command.TheVariants.{Values}
use Rattle.sl_app.proofs.EndLemmas.{memory_told}
use Rattle.sl_app.proofs.RunLemmas.{valued}
use Rattle.sl_app.proofs.top.values.Goals as goal

pub returns : goal.returns
returns g c = let e = c.in_ok-accepted.ensures in
    valued _ c.in_ok-accepted.accepted c.requires e.accepts.0 e.small _ _ _ _ _ c.in_ok-served.ensures.values c.in_ok-served.ensures.status

pub returns-in_err-served : goal.returns-in_err-served
returns-in_err-served g c = memory_told _ Values c.from_residual-in_err-served.result c.requires tt c.from_residual-in_err-served.ensures
