use Rattle.nodes_tests.proofs.ActorLemmas.{fit_set}
use Rattle.nodes_tests.proofs.actors.turn.Goals as goal

pub returns-in_err-turn : goal.returns-in_err-turn
returns-in_err-turn g c = fit_set _ _ _ _ _ _ c.index_mut-actor.ensures.value c.turn.ensures.counts c.requires

pub returns-in_ok-turn : goal.returns-in_ok-turn
returns-in_ok-turn g c = fit_set _ _ _ _ _ _ c.index_mut-actor.ensures.value c.turn.ensures.counts c.requires
