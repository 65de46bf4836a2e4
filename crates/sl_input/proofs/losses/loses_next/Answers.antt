use Rattle.sl_input.proofs.losses.loses_next.Goals as goal

pub returns-in-Some-clause-lost : goal.returns-in-Some-clause-lost
returns-in-Some-clause-lost c = rw c.in-Some.is c.next.ensures.answer
