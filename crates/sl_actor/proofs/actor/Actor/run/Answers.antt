use Rattle.sl_actor.proofs.RunLemmas.{settled_all}
use Rattle.sl_actor.proofs.actor.Actor.run.Goals as goal

pub returns-clause-follows : goal.returns-clause-follows
returns-clause-follows g c = c.rounds-rest.ensures.advances.follows

pub returns-clause-log : goal.returns-clause-log
returns-clause-log g c = c.rounds-rest.ensures.advances.log

pub returns-clause-settled : goal.returns-clause-settled
returns-clause-settled g c rested = settled_all _ _ _ (c.rounds-rest.ensures.quiet rested)

pub returns-clause-fronts : goal.returns-clause-fronts
returns-clause-fronts g c rested some = (c.rounds-rest.ensures.quiet rested).offered some

pub returns-clause-ends : goal.returns-clause-ends
returns-clause-ends g c = c.rounds-rest.ensures.advances.ends

pub returns-clause-counts : goal.returns-clause-counts
returns-clause-counts g c = c.rounds-rest.ensures.advances.counts

pub returns-clause-place : goal.returns-clause-place
returns-clause-place g c = c.rounds-rest.ensures.advances.place
