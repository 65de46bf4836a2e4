use Rattle.std.proofs.Common.{append-nil, sym, arith}
use Rattle.std.proofs.lemmas.Bool.{eq-eqb, ne_eqb}
use Rattle.sl_input.proofs.losses.add_drop.Goals as goal

pub returns-in_ok-push : goal.returns-in_ok-push
returns-in_ok-push c = rw (eq-eqb c.args.drop.link c.args.link (omega arith)) c.in_ok-push.ensures.items

pub returns-else-drop-link : goal.returns-else-drop-link
returns-else-drop-link c = rw (ne_eqb c.args.drop.link c.args.link (λ e. omega arith)) (sym (append-nil c.args.numbers.now.items))
