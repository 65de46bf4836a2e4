use Rattle.sl_words.specs.declared.command.Command.TheVariants.{Poll}
use Rattle.sl_app.proofs.EndLemmas.{memory_told}
use Rattle.sl_app.proofs.RunLemmas.{polled}
use Rattle.sl_app.proofs.top.poll.Goals as goal

pub returns : goal.returns
returns g c = let e = c.in_ok-accepted.ensures in
    polled _ c.in_ok-accepted.accepted c.args.start c.args.gap c.requires e.accepts.0 e.small _ _ _ _ _ c.in_ok-served.ensures.reading c.in_ok-served.ensures.status

pub returns-in_err-served : goal.returns-in_err-served
returns-in_err-served g c = memory_told _ (Poll c.args.start c.args.gap) c.from_residual-in_err-served.result c.requires tt c.from_residual-in_err-served.ensures
