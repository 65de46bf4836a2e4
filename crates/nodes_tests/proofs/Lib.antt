mod ActorLemmas
