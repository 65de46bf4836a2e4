use Rattle.std.proofs.Common.{◌≡◌, ap, ◌∙◌, arith}
use Rattle.sl_machine.specs.Machine.{is_fitting}
use Rattle.sl_observe.specs.Observer.{begins_out}
use Rattle.sl_observe.proofs.Begins.{begins_fit}
use Rattle.sl_observe.proofs.observer.begin_all.Goals as goal

pub returns-clause-fitting : goal.returns-clause-fitting
returns-clause-fitting c =
    let all : c.loop-link.link ≡ c.args.outs = omega arith in
    ap (is_fitting c.args.outs) (c.loop-link.invariant.items ∙ ap (λ n. begins_out n c.args.number) all) ∙ begins_fit c.args.outs c.args.number
