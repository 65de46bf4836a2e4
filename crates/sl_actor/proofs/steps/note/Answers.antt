use Rattle.sl_actor.proofs.steps.note.Goals as goal

pub returns-clause-log : goal.returns-clause-log
returns-clause-log g c = c.push_reserved.ensures.items
