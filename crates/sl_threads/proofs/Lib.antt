mod JobLemmas
mod RunLemmas
