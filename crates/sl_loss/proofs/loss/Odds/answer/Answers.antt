use Rattle.sl_loss.proofs.loss.Odds.answer.Goals as goal

pub returns-then-answered-lt18446744073709551615-clause-facts :
    goal.returns-then-answered-lt18446744073709551615-clause-facts
returns-then-answered-lt18446744073709551615-clause-facts c = c.draw.ensures.facts c.args.answered
