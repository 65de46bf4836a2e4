mod LineLemmas
mod OrderLemmas
mod TurnLemmas
